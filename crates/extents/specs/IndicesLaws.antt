-- The laws of the list of indices, for the crates above.
use Rattle.std.proofs.Common.{◌≡◌, ℕ, zero, suc, ◌+◌, ◌*◌, ◌/◌, ◌%◌, ◌<◌, List, [], ◌∷◌, ◌++◌, map, length, get_or, Some, refl, sym, ap, subst, ◌∙◌, arith, length-append}
use Rattle.std.specs.Prelude.{◌↔◌, Bool, IsTrue, Contains, slice_get}
use Rattle.std.specs.List.{flat_map, range_with_len}
use Rattle.std.specs.Option.{option_map}
use Rattle.std.proofs.lemmas.List.{length-map}
use Rattle.std.proofs.lemmas.Option.{slice_get-map, slice_get-get_or, slice_get_within, get_or_from_slice_get}
use Rattle.std.proofs.lemmas.Nat.{mul-add-lt, div_below, mod_below, div-add-mod'}
use Rattle.extents.specs.Indices.{indices, IsInside, product}

-- ---- lists that are joined of blocks of one width

-- an element of the left part
slice_get_left : {X : Type 0} (xs ys : List X) (k : ℕ) → k < length xs → slice_get (xs ++ ys) k ≡ slice_get xs k
slice_get_left [] ys k h = absurd (omega arith)
slice_get_left (x ∷ xs) ys zero h = refl
slice_get_left (x ∷ xs) ys (suc k) h = slice_get_left xs ys k (omega arith)

-- an element of the right part
slice_get_right : {X : Type 0} (xs ys : List X) (j k : ℕ) → j ≡ length xs + k → slice_get (xs ++ ys) j ≡ slice_get ys k
slice_get_right [] ys j k e = let e' : j ≡ k = omega arith in ap (slice_get ys) e'
slice_get_right (x ∷ xs) ys zero k e = absurd (omega arith)
slice_get_right (x ∷ xs) ys (suc j) k e = slice_get_right xs ys j k (omega arith)

-- as many elements as blocks times the width
length-blocks : {X : Type 0} (f : ℕ → List X) (w : ℕ) → ((i : ℕ) → length (f i) ≡ w) → (a n : ℕ) → length (flat_map f (range_with_len a n)) ≡ n * w
length-blocks f w each a zero = omega arith
length-blocks f w each a (suc n) = grind (arith, length-append, flat_map, range_with_len, (length-blocks f w each (a + 1) n))

-- element j of block i stands after i whole blocks
slice_get-blocks : {X : Type 0} (f : ℕ → List X) (w : ℕ) → ((i : ℕ) → length (f i) ≡ w) → (a n i j p : ℕ) → i < n → j < w → p ≡ i * w + j
    → slice_get (flat_map f (range_with_len a n)) p ≡ slice_get (f (a + i)) j
slice_get-blocks f w each a zero i j p hi hj e = absurd (omega arith)
slice_get-blocks f w each a (suc n) zero j p hi hj e = grind (arith, slice_get_left, flat_map, range_with_len)
slice_get-blocks f w each a (suc n) (suc i) j p hi hj e =
    grind (arith, slice_get_right, flat_map, range_with_len, slice_get, (slice_get-blocks f w each (a + 1) n i j (i * w + j) (omega arith) hj refl))

-- ---- the list of indices

-- there are as many indices as the product of the extents
pub length-indices : (e : List ℕ) → length (indices e) ≡ product e
unfolding indices
length-indices [] = refl
length-indices (n ∷ ns) = grind (arith, length-blocks, length-map, (length-indices ns))

-- the index at row i * (rows of the rest) + j is i, followed by the index at row j of the rest
pub slice_get-indices : (n : ℕ) (ns : List ℕ) (i j p : ℕ) → i < n → j < product ns → p ≡ i * product ns + j → slice_get (indices (n ∷ ns)) p ≡ option_map (λ rest. i ∷ rest) (slice_get (indices ns) j)
unfolding indices
slice_get-indices n ns i j p hi hj e =
    let at : 0 + i ≡ i = omega arith in
    slice_get-blocks (λ i. map (λ rest. i ∷ rest) (indices ns)) (product ns) (λ i. length-map (indices ns) (λ rest. i ∷ rest) ∙ length-indices ns) 0 n i j p hi hj e
    ∙ ap (λ k. slice_get (map (λ rest. k ∷ rest) (indices ns)) j) at
    ∙ slice_get-map (λ rest. i ∷ rest) (indices ns) j

-- the row of an index, by the rows that each component skips
abbrev pub place : List ℕ → List ℕ → ℕ
place [] is = 0
place (n ∷ ns) [] = 0
place (n ∷ ns) (i ∷ is) = i * product ns + place ns is

pub place_below : (e is : List ℕ) → IsInside e is → place e is < product e
place_below [] is h = omega arith
place_below (n ∷ ns) [] h = absurd h
place_below (n ∷ ns) (i ∷ is) h = omega (arith, mul-add-lt i (product ns) (place ns is) n h.0 (place_below ns is h.1))

pub slice_get-place : (e is : List ℕ) → IsInside e is → slice_get (indices e) (place e is) ≡ Some is
unfolding indices
slice_get-place [] [] h = refl
slice_get-place [] (i ∷ is) h = absurd h
slice_get-place (n ∷ ns) [] h = absurd h
slice_get-place (n ∷ ns) (i ∷ is) h =
    slice_get-indices n ns i (place ns is) (i * product ns + place ns is) h.0 (place_below ns is h.1) refl
    ∙ ap (option_map (λ rest. i ∷ rest)) (slice_get-place ns is h.1)

-- a product above a number is of factors above 0
pub wide : (n w k : ℕ) → k < n * w → 0 < w
wide n w k h = grind arith

-- an entry is inside the extents, and stands at its place
pub entry_at : (e : List ℕ) (k : ℕ) (is : List ℕ) → slice_get (indices e) k ≡ Some is → IsInside e is × (place e is ≡ k)
unfolding indices
entry_at [] zero is h = grind arith
entry_at [] (suc k) is h = cc
entry_at (n ∷ ns) k is h =
    let within : k < n * product ns = omega (arith, slice_get_within (indices (n ∷ ns)) k is h, length-indices (n ∷ ns)) in
    let some : 0 < product ns = wide n (product ns) k within in
    let low : k / product ns < n = div_below k (product ns) n some within in
    let inner : k % product ns < product ns = mod_below k (product ns) some in
    let split : k ≡ k / product ns * product ns + k % product ns = sym (div-add-mod' k (product ns)) in
    let at = slice_get-indices n ns (k / product ns) (k % product ns) k low inner split in
    let found : slice_get (indices ns) (k % product ns) ≡ Some (get_or (indices ns) (k % product ns) []) = slice_get-get_or (indices ns) (k % product ns) [] (omega (arith, length-indices ns)) in
    let same : Some (k / product ns ∷ get_or (indices ns) (k % product ns) []) ≡ Some is = sym (at ∙ ap (option_map (λ rest. k / product ns ∷ rest)) found) ∙ h in
    let inside = entry_at ns (k % product ns) (get_or (indices ns) (k % product ns) []) found in
    let is_same : k / product ns ∷ get_or (indices ns) (k % product ns) [] ≡ is = cc in
    subst (λ (xs : List ℕ). IsInside (n ∷ ns) xs × (place (n ∷ ns) xs ≡ k)) is_same ((low, inside.0), omega (arith, inside.1, split))

-- an index has one row
pub same_row : (e is : List ℕ) (j k : ℕ) → slice_get (indices e) j ≡ Some is → slice_get (indices e) k ≡ Some is → j ≡ k
same_row e is j k hj hk = sym (entry_at e j is hj).1 ∙ (entry_at e k is hk).1

-- each entry is inside
pub inside_of_entry : (e : List ℕ) (k : ℕ) (is : List ℕ) → slice_get (indices e) k ≡ Some is → IsInside e is
inside_of_entry e k is h = (entry_at e k is h).0

-- each index inside has a row
pub row_of_inside : (e is : List ℕ) → IsInside e is → (k : ℕ) × (k < length (indices e)) × (slice_get (indices e) k ≡ Some is)
row_of_inside e is h = (place e is, (omega (arith, place_below e is h, length-indices e)), slice_get-place e is h)

-- the entries are the indices inside
pub Contains-indices : (e is : List ℕ) → Contains (indices e) is ↔ IsInside e is
Contains-indices e is = grind (arith, inside_of_entry, slice_get-get_or, row_of_inside, get_or_from_slice_get)

-- a test of an index is a test of membership
pub decides_member : (e is : List ℕ) (b : Bool) → (IsTrue b ↔ IsInside e is) → IsTrue b ↔ Contains (indices e) is
decides_member e is b h = grind (arith, Contains-indices)
