-- Words, their extents and products.
use Rattle.std.proofs.Common.{◌≡◌, ℕ, zero, suc, ◌+◌, ◌*◌, ◌/◌, ◌%◌, ◌-◌, ◌^◌, ◌<◌, ◌≤◌, false, nat_lt, eqb, List, [], ◌∷◌, ◌++◌, map, length, get_or, set, take, replicate, refl, sym, ap, ◌∙◌, arith, length-append, All, cond}
use Rattle.std.specs.Prelude.{count_by, Option, Some, None, Result, IsOk, IfErr, MatchResult, ◌↔◌}
use Rattle.std.specs.List.{list_any}
use Rattle.std.proofs.lemmas.List.{map_more, append_assoc, take_at, set_at, length-replicate}
use Rattle.std.proofs.lemmas.List.Elements.{All-take}
use Rattle.std.proofs.lemmas.List.Sums.{sum_by-cons}
use Rattle.std.proofs.lemmas.Nat.{mul-le, div-add-mod'}
use Rattle.std.proofs.lemmas.Grind.{pow_more}
use Rattle.std.proofs.lemmas.Bool.{false≢true, or_parts, cases_lt}
use Rattle.extents.specs.declared.words.ExtentWord.{ExtentWord}
use Rattle.extents.specs.declared.words.ExtentWord.TheVariants.{Fixed, Rows}
use Rattle.extents.specs.Indices.{product}
use Rattle.extents.specs.IndicesLaws.{length-indices}
use Rattle.extents.specs.Shapes.{is_rows, is_zero, extent_of, fixed_product, extents_for, IsUneven, IsUnequal, IsTooMany, bad_extents}
use Rattle.extents.specs.declared.words.BadExtents.{BadExtents}
use Rattle.extents.specs.declared.words.BadExtents.TheVariants.{TooMany}
use Rattle.extents.specs.Stored.{padded, StoresExtents}

-- ---- products

pub product-push : (xs : List ℕ) (x : ℕ) → product (xs ++ x ∷ []) ≡ product xs * x
product-push [] x = omega arith
product-push (y ∷ xs) x = omega (arith, ap (λ p. y * p) (product-push xs x))

-- one factor more
pub product_more : {W : Type 0} (f : W → ℕ) (ws : List W) (k : ℕ) (d : W) (p v : ℕ) → k < length ws → v ≡ f (get_or ws k d) → p ≡ product (map f (take k ws))
    → p * v ≡ product (map f (take (k + 1) ws))
product_more f ws k d p v hk hv hp =
    sym (ap product (map_more f ws k d hk) ∙ product-push (map f (take k ws)) (f (get_or ws k d)) ∙ ap (λ x. x * f (get_or ws k d)) (sym hp) ∙ ap (λ x. p * x) (sym hv))

-- a product of k factors is at most the power of their bound
pub power_more : (b k p v : ℕ) → p ≤ b ^ k → v ≤ b → p * v ≤ b ^ (k + 1)
power_more b k p v hp hv = omega (arith, mul-le p v (b ^ k) b hp hv, pow_more b k)

-- ---- words

-- with no `Rows` the extents are the same for any number
pub same_fixed : (ws : List ExtentWord) (s t : ℕ) → count_by is_rows ws ≡ 0 → map (extent_of s) ws ≡ map (extent_of t) ws
same_fixed [] s t h = refl
same_fixed (Fixed n ∷ ws) s t h = ap (λ xs. n ∷ xs) (same_fixed ws s t (omega (arith, h, sum_by-cons (λ w. cond (is_rows w) 1 0) (Fixed n) ws)))
same_fixed (Rows ∷ ws) s t h = absurd (omega (arith, h, sum_by-cons (λ w. cond (is_rows w) 1 0) Rows ws))

-- with one `Rows` the product is that of the fixed extents times what it stands for
pub product_filled : (ws : List ExtentWord) (s : ℕ) → count_by is_rows ws ≡ 1 → product (map (extent_of s) ws) ≡ s * fixed_product ws
product_filled [] s h = absurd (omega (arith, h))
product_filled (Fixed n ∷ ws) s h =
    let rest = product_filled ws s (omega (arith, h, sum_by-cons (λ w. cond (is_rows w) 1 0) (Fixed n) ws)) in
    omega (arith, ap (λ p. n * p) rest)
product_filled (Rows ∷ ws) s h =
    let none : count_by is_rows ws ≡ 0 = omega (arith, h, sum_by-cons (λ w. cond (is_rows w) 1 0) Rows ws) in
    let rest : product (map (extent_of s) ws) ≡ product (map (extent_of 1) ws) = ap product (same_fixed ws s 1 none) in
    omega (arith, ap (λ p. s * p) rest)

-- with no 0 the product is above 0
pub fixed_positive : (ws : List ExtentWord) → list_any is_zero ws ≡ false → 0 < fixed_product ws
fixed_positive [] h = omega arith
fixed_positive (Fixed zero ∷ ws) h = absurd (false≢true (sym h))
fixed_positive (Fixed (suc n) ∷ ws) h = grind (arith, or_parts, list_any, (fixed_positive ws (or_parts (eqb (suc n) 0) (list_any is_zero ws) h).1))
fixed_positive (Rows ∷ ws) h = let rest = fixed_positive ws h in omega (arith, rest)

-- where the fixed extents divide the rows, the product is the rows
pub product_divided : (ws : List ExtentWord) (rows p : ℕ) → count_by is_rows ws ≡ 1 → p ≡ fixed_product ws → rows % p ≡ 0 → rows ≡ product (map (extent_of (rows / p)) ws)
product_divided ws rows p one same even =
    sym (product_filled ws (rows / p) one ∙ ap (λ x. rows / p * x) (sym same) ∙ whole)
  where
    whole : rows / p * p ≡ rows
    whole = omega (arith, div-add-mod' rows p, even)

-- with no `Rows` the product is that of the fixed extents
pub product_fixed : (ws : List ExtentWord) (s p : ℕ) → count_by is_rows ws ≡ 0 → p ≡ fixed_product ws → p ≡ product (map (extent_of s) ws)
product_fixed ws s p none same = same ∙ sym (ap product (same_fixed ws s 1 none))

-- where neither other cause holds, the number of rows decides
pub settled : {P : Type 0} (ws : List ExtentWord) (rows : Option ℕ) (total : ℕ) → (¬ IsUneven ws rows) → (¬ IsUnequal ws rows) → total ≡ product (extents_for ws rows) → (P ↔ (total ≤ 2 ^ 24))
    → P ↔ ((¬ IsUneven ws rows) × (¬ IsUnequal ws rows) × (¬ IsTooMany ws rows))
settled ws rows total even equal same h = grind (arith, cases_lt)

pub settled_too_many : {P : Type 0} (ws : List ExtentWord) (rows : Option ℕ) (total : ℕ) → (¬ IsUneven ws rows) → (¬ IsUnequal ws rows) → total ≡ product (extents_for ws rows)
    → (P ↔ (2 ^ 24 < total)) → P ↔ ((¬ IsUneven ws rows) × (¬ IsUnequal ws rows) × IsTooMany ws rows)
settled_too_many ws rows total even equal same h = grind arith

-- ---- what is stored

pub padded_more : (xs : List ℕ) (k v : ℕ) → length xs ≡ k → k < 4 → set (padded xs) k v ≡ padded (xs ++ v ∷ [])
padded_more xs k v long h =
    let more : 4 - length xs ≡ suc (3 - length xs) = omega arith in
    let fewer : 4 - length (xs ++ v ∷ []) ≡ 3 - length xs = omega (arith, length-append xs (v ∷ [])) in
    ap (λ n. set (xs ++ replicate n 0) k v) more
    ∙ set_at xs 0 (replicate (3 - length xs) 0) v k long
    ∙ sym (append_assoc xs (v ∷ []) (replicate (3 - length xs) 0))
    ∙ sym (ap (λ n. (xs ++ v ∷ []) ++ replicate n 0) fewer)

pub IsStored_from : (xs sizes : List ℕ) (rank count : ℕ) → sizes ≡ padded xs → length xs ≡ rank → 0 < rank → rank ≤ 4 → All (λ n. n < 2 ^ 32) sizes → count ≡ product xs → count ≤ 2 ^ 24
    → StoresExtents sizes rank count
IsStored_from xs sizes rank count filled long some few narrow counted bound =
    let front : take rank sizes ≡ xs = ap (take rank) filled ∙ take_at xs (replicate (4 - length xs) 0) rank long in
    record {
      long = ap length filled ∙ omega (arith, length-append xs (replicate (4 - length xs) 0), length-replicate {A = ℕ} (4 - length xs) 0);
      ranked = few;
      padding = filled ∙ ap padded (sym front);
      extents = record {
        some = omega (arith, ap length front);
        few = omega (arith, ap length front);
        narrow = All-take (λ n. n < 2 ^ 32) rank sizes narrow;
        rows = omega (arith, length-indices (take rank sizes), ap product front);
      };
      counted = counted ∙ ap product (sym front);
    }

-- ---- the first cause

-- where neither other cause holds, the number of rows tells the first
pub settled_first : {R : Type 0} (ws : List ExtentWord) (rows : Option ℕ) (total : ℕ) (result : Result R BadExtents) → (¬ IsUneven ws rows) → (¬ IsUnequal ws rows)
    → total ≡ product (extents_for ws rows)
    → (IsOk result ↔ (total ≤ 2 ^ 24)) → IfErr result (λ e. e ≡ TooMany) → MatchResult result (λ _. bad_extents ws rows ≡ None) (λ bad. bad_extents ws rows ≡ Some bad)
settled_first ws rows total result even equal same ok only = grind (arith, nat_lt, cases_lt)
