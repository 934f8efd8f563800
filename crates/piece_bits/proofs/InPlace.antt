-- A loop that replaces each value of a slice in its turn.
use Rattle.piece_bits.proofs.Imports.{◌≡◌, ℕ, zero, suc, ◌+◌, ◌<◌, ◌≤◌, List, [], ◌∷◌, length, get_or, set, map, take, ℤ, pos, ap, sym, ◌∙◌, arith, zip2, Each2, map-append, length-map, get_or-map, get_or-set_other, take_more, take_more_set, take_all, length-zip2, get_or-zip2}

-- the first so many values are those that are wanted, and the others stand
pub record IsReplaced {X : Type 0} (value : X → ℤ) (wanted : List ℤ) (old now : List X) (count : ℕ) : Type 0 where
  pub first : map value (take count now) ≡ take count wanted
  pub rest : (k : ℕ) (d : X) → count ≤ k → get_or now k d ≡ get_or old k d

pub one_more : {X : Type 0} (value : X → ℤ) (wanted : List ℤ) (old now : List X) (i : ℕ) (x : X) → i < length now → length wanted ≡ length now
    → IsReplaced value wanted old now i → value x ≡ get_or wanted i (pos 0) → IsReplaced value wanted old (set now i x) (i + 1)
one_more {X} value wanted old now i x inside same done is = grind (arith, take_more_set, map-append, take_more, get_or-set_other)

pub all : {X : Type 0} (value : X → ℤ) (wanted : List ℤ) (old now : List X) (count : ℕ) → length now ≤ count → length wanted ≡ length now
    → IsReplaced value wanted old now count → map value now ≡ wanted
all value wanted old now count whole same done = grind (arith, take_all)

-- where the wanted values are made of the old ones, and of others beside them
pub mapped : {X : Type 0} (value : X → ℤ) (f : X → ℤ) (old now : List X) (i : ℕ) (x y : X) → i < length now → length now ≡ length old
    → IsReplaced value (map f old) old now i → value y ≡ f (get_or now i x) → IsReplaced value (map f old) old (set now i y) (i + 1)
mapped value f old now i x y inside same done is =
    one_more value (map f old) old now i y inside (length-map old f ∙ sym same) done
    (is ∙ ap f (done.rest i x (omega arith)) ∙ sym (get_or-map f old i x (pos 0) (omega arith)))

pub zipped : {X : Type 0} (value : X → ℤ) (f : X → X → ℤ) (old added now : List X) (i : ℕ) (x y z : X) → i < length now → length now ≡ length old → length added ≡ length old
    → IsReplaced value (zip2 f old added) old now i → value z ≡ f (get_or now i x) (get_or added i y) → IsReplaced value (zip2 f old added) old (set now i z) (i + 1)
zipped value f old added now i x y z inside same beside done is =
    one_more value (zip2 f old added) old now i z inside (length-zip2 f old added (omega arith) ∙ sym same) done
    (is ∙ ap (λ v. f v (get_or added i y)) (done.rest i x (omega arith)) ∙ sym (get_or-zip2 f old added i x y (pos 0) (omega arith) (omega arith)))

-- what holds of each two values that stand beside each other, at one place
pub beside : {X Y : Type 0} (P : X → Y → Type 0) (xs : List X) (ys : List Y) (i : ℕ) (x : X) (y : Y) → i < length xs → i < length ys → Each2 P xs ys → P (get_or xs i x) (get_or ys i y)
beside P [] ys i x y in_xs in_ys each = absurd (omega arith)
beside P (a ∷ xs) [] i x y in_xs in_ys each = absurd (omega arith)
beside P (a ∷ xs) (b ∷ ys) zero x y in_xs in_ys each = each.0
beside P (a ∷ xs) (b ∷ ys) (suc i) x y in_xs in_ys each = beside P xs ys i x y (omega arith) (omega arith) each.1
