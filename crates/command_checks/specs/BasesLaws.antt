-- Laws of mappings without names, and of the rows that words ask for.
use Rattle.std.specs.Prelude.{◌≡◌, ◌⊎◌, ℕ, zero, suc, ◌<◌, ◌/◌, ◌%◌, Bool, true, false, not, nat_lt, count_by, List, length, Option, Some, None, refl, Ok, Err, IsSome, IfSome, ◌==◌, ◌&&◌, if◌then◌else◌}
use Rattle.command_checks.specs.Imports.{inl, inr, sym, ap, ◌∙◌, arith, ⊎_elim, cases_Bool, nat_tests, ExtentWord, Bad, indices, product, length-indices, is_rows, HasRows, IsShape, bad_extents, extents_for, fixed_product, product_divided, product_fixed, PathStep, Term, Split, IsNameless, resolved, BadExtents, built_nameless}
pub use Rattle.blob_file.specs.HeaderLaws.{nameless_built}
use Rattle.command_checks.specs.Inner.Bases.{is_nameless, rows_for}

-- a mapping without names can be checked
pub nameless_term : (term : Term) → is_nameless term ≡ true → IsNameless term
nameless_term term e = built_nameless term (nameless_built term e)

-- two mappings without names, as the two sides of a split
pub nameless_split : (path : List PathStep) (first rest : Term) → is_nameless first ≡ true → is_nameless rest ≡ true → is_nameless (Split path first rest) ≡ true
nameless_split path first rest p q = rw (p, q) refl

-- a number of rows is given where there is a `?`
pub rows_for_some : (words : List ExtentWord) (rows : Option ℕ) → HasRows words → IsSome (rows_for words rows)
rows_for_some words rows has = grind (arith, nat_lt, count_by, nat_tests)

some_not_none : (n : ℕ) → nat_lt 0 n ≡ true → (n == 0) ≡ false
some_not_none n e = grind (arith, nat_tests)

-- rows that are given stay
rows_for_given : (words : List ExtentWord) (rows : ℕ) → rows_for words (Some rows) ≡ Some rows
rows_for_given words rows = ⊎_elim
    (λ (e : nat_lt 0 (count_by is_rows words) ≡ true). rw e refl)
    (λ (e : nat_lt 0 (count_by is_rows words) ≡ false). rw e refl)
    (cases_Bool (nat_lt 0 (count_by is_rows words)))

-- and it changes nothing
pub rows_for_same : (words : List ExtentWord) (rows : Option ℕ) → resolved words (rows_for words rows) ≡ resolved words rows
rows_for_same words None = ⊎_elim
    (λ (e : nat_lt 0 (count_by is_rows words) ≡ true). let none = some_not_none (count_by is_rows words) e in rw (e, none) refl)
    (λ (e : nat_lt 0 (count_by is_rows words) ≡ false). rw e refl)
    (cases_Bool (nat_lt 0 (count_by is_rows words)))
rows_for_same words (Some n) = ap (resolved words) (rows_for_given words n)

-- the first cause that refuses extents, or the extents
pub resolves : (words : List ExtentWord) (rows : Option ℕ) (extents : List ℕ) → bad_extents words rows ≡ None → extents ≡ extents_for words rows → resolved words rows ≡ Ok extents
resolves words rows extents none is = rw none (ap (λ (e : List ℕ). Ok e) (sym is))

pub resolves_not : (words : List ExtentWord) (rows : Option ℕ) (bad : Bad) → bad_extents words rows ≡ Some bad → resolved words rows ≡ Err (BadExtents bad)
resolves_not words rows bad some = rw some refl

-- the extents for so many rows have as many
even : (n : ℕ) (r : ℕ) → 0 < n → (nat_lt 0 n && not (r == 0)) ≡ false → r ≡ 0
even n r some e = grind (arith, nat_tests)

rows_of_shape : (words : List ExtentWord) (rows : ℕ) → IsShape words → bad_extents words (Some rows) ≡ None → product (extents_for words (Some rows)) ≡ rows
rows_of_shape words rows shape none =
    let n = count_by is_rows words in
    let fixed = fixed_product words in
    ⊎_elim
    (λ (has : 0 < n).
    let one : n ≡ 1 = omega (arith, shape.one) in
    let odd : (nat_lt 0 n && not (rows % fixed == 0)) ≡ false = first_false _ _ _ none in
    sym (product_divided words rows fixed one refl (even n (rows % fixed) has odd)))
    (λ (is : n ≡ 0).
    let other : ((n == 0) && not (rows == fixed)) ≡ false = second_false _ _ _ _ _ none in
    sym (product_fixed words (rows / fixed) fixed is refl) ∙ sym (same_rows n rows fixed is other))
    (some_or_none n)
  where
    some_or_none : (n : ℕ) → (0 < n) ⊎ (n ≡ 0)
    some_or_none zero = inr refl
    some_or_none (suc n) = inl (omega arith)

    same_rows : (n rows fixed : ℕ) → n ≡ 0 → ((n == 0) && not (rows == fixed)) ≡ false → rows ≡ fixed
    same_rows n rows fixed is e = grind (arith, nat_tests)

    first_false : (a : Bool) (x : Bad) (rest : Option Bad) → (if a then Some x else rest) ≡ None → a ≡ false
    first_false a x rest e = grind arith

    second_false : (a b : Bool) (x y : Bad) (rest : Option Bad) → (if a then Some x else (if b then Some y else rest)) ≡ None → b ≡ false
    second_false a b x y rest e = grind arith

pub rows_are : (words : List ExtentWord) (rows : Option ℕ) (extents : List ℕ) → IsShape words → bad_extents words (rows_for words rows) ≡ None → extents ≡ extents_for words (rows_for words rows)
    → IfSome rows (λ count. length (indices extents) ≡ count)
rows_are words None extents shape none is = tt
rows_are words (Some rows) extents shape none is =
    let same : rows_for words (Some rows) ≡ Some rows = rows_for_given words rows in
    length-indices extents ∙ ap product (is ∙ ap (extents_for words) same) ∙ rows_of_shape words rows shape (rw same at none)
