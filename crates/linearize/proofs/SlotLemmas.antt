-- What the loops over extents keep.
use Rattle.linearize.proofs.Imports.{◌≡◌, ℕ, zero, suc, ◌+◌, ◌*◌, ◌^◌, ◌<◌, ◌≤◌, min, List, [], ◌∷◌, length, get_or, take, refl, sym, ap, ◌∙◌, ◌⊎◌, arith, reverse, IsSomeAnd, Some, slice_get, length_all_zip, IsRowSoFar, row_turn, take_more, reverse-append, cases_lt, reverse_onto, mul-le, indices, product, IsInside, place, place_below, slice_get-place, length-indices, row_of_inside, product-push, place_in, slot_of, slot_count, row_at, place_in_is, row_at-slot_of, Order, Row, Col}

-- an index inside stands where its components lead
pub place_is : (e i : List ℕ) → IsInside e i → place e i ≡ place_in (indices e) i
place_is e i h = sym (place_in_is e i (place e i) (slice_get-place e i h))

pub place_fits : (e i : List ℕ) → length (indices e) ≤ 2 ^ 24 → IsInside e i → place e i < 2 ^ 24
place_fits e i few h = omega (arith, place_below e i h, length-indices e)

-- one element more of a reversed front stands first
pub reverse_take_more : (xs : List ℕ) (n k : ℕ) → k + 1 ≡ n → k < length xs → reverse (take n xs) ≡ get_or xs k 0 ∷ reverse (take k xs)
reverse_take_more xs n k e h =
    ap (λ m. reverse (take m xs)) (sym e) ∙ ap reverse (take_more xs k 0 h) ∙ reverse-append (take k xs) (get_or xs k 0 ∷ [])

-- one turn of a loop that goes down both lists
pub column_turn : (e i : List ℕ) (n k row total : ℕ) → k + 1 ≡ n → k < length e → length i ≡ length e → IsRowSoFar (reverse (take n e)) (reverse (take n i)) row total → IsRowSoFar (reverse (take k e)) (reverse (take k i)) (row * get_or e k 0 + get_or i k 0) total
column_turn e i n k row total next h same so_far =
    row_turn (reverse (take n e)) (reverse (take k e)) (reverse (take n i)) (reverse (take k i)) (get_or e k 0) (get_or i k 0) row total
    (reverse_take_more e n k next h) (reverse_take_more i n k next (omega arith)) so_far

-- an index has as many components as there are extents
pub same_length : (e i : List ℕ) → IsInside e i → length i ≡ length e
same_length e i h = length_all_zip (λ (x y : ℕ). x < y) i e h

-- what the slot of an index says of its row
pub row_of_slot : (o : Order) (e i : List ℕ) (s : ℕ) → IsInside e i → s ≡ slot_of o e i → IsSomeAnd (row_at o e s) (λ row. slice_get (indices e) row ≡ Some i)
row_of_slot o e i s h same = grind (arith, row_of_inside, row_at-slot_of, slice_get)

product-reverse : (e : List ℕ) → product (reverse e) ≡ product e
product-reverse [] = refl
product-reverse (n ∷ e) = grind (arith, reverse_onto, product-push, (product-reverse e))

-- by rows and by columns there are as many slots as the product of the extents
pub product_count : (o : Order) (e : List ℕ) → (o ≡ Row) ⊎ (o ≡ Col) → slot_count o e ≡ product e
product_count o e either = grind (arith, length-indices, product-reverse)

-- a product that stands still at a top above 0
pub stops_at : (p v top : ℕ) → min (min p top * v) top ≡ min (p * v) top
stops_at p zero top = omega arith
stops_at p (suc v) top = grind (arith, mul-le, cases_lt)

-- one factor more
pub product_take_more : (xs : List ℕ) (k : ℕ) → k < length xs → product (take (k + 1) xs) ≡ product (take k xs) * get_or xs k 0
product_take_more xs k h = ap product (take_more xs k 0 h) ∙ product-push (take k xs) (get_or xs k 0)
