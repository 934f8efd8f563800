-- What the loops over extents keep.
use Rattle.std.proofs.Common.{◌≡◌, ℕ, ◌+◌, ◌*◌, ◌/◌, ◌%◌, ◌^◌, ◌<◌, ◌≤◌, List, [], ◌∷◌, ◌++◌, length, get_or, drop, Some, sym, ap, subst, ◌∙◌, ◌⊎◌, arith, length-append}
use Rattle.std.specs.Prelude.{slice_get}
use Rattle.std.specs.Option.{option_map}
use Rattle.std.proofs.lemmas.List.{drop_more, drop_all, append_assoc, append-nil}
use Rattle.std.proofs.lemmas.Nat.{mod_below, div_below, div-add-mod'}
use Rattle.std.proofs.Math.Nat.{mul-div_cancel_left, le-mul_of_pos_right}
use Rattle.extents.specs.Indices.{indices, product, IsInside, IsExtents}
use Rattle.extents.specs.IndicesLaws.{place, place_below, slice_get-place, slice_get-indices, length-indices, wide}

-- ---- from an index to its row

-- these extents and components are left, and the row so far leads to the row `total`
pub record IsRowSoFar (e is : List ℕ) (row total : ℕ) : Type 0 where
  pub inside : IsInside e is
  pub leads : row * product e + place e is ≡ total

pub IsRowSoFar-none : (e is : List ℕ) → IsInside e is → IsRowSoFar e is 0 (place e is)
IsRowSoFar-none e is h = record { inside = h; leads = omega arith }

-- a row so far is at most the row that it leads to
pub row_so_far_le : (e is : List ℕ) (row total : ℕ) → IsRowSoFar e is row total → row ≤ total
row_so_far_le e is row total h = grind (arith, place_below, le-mul_of_pos_right)

-- one turn of a loop over both lists
pub row_turn : (e e' is is' : List ℕ) (n i row total : ℕ) → e ≡ n ∷ e' → is ≡ i ∷ is' → IsRowSoFar e is row total → IsRowSoFar e' is' (row * n + i) total
row_turn e e' is is' n i row total he hi h = grind arith

-- where one list has ended, both have
pub row_end : (e is : List ℕ) (row total : ℕ) → (length is ≡ 0) ⊎ (length e ≡ 0) → IsRowSoFar e is row total → row ≡ total
row_end [] [] row total none h = omega (arith, h.leads)
row_end [] (i ∷ is) row total none h = absurd h.inside
row_end (n ∷ e) [] row total none h = absurd h.inside
row_end (n ∷ e) (i ∷ is) row total none h = grind arith

-- each row fits
pub place_fits : (e is : List ℕ) → IsExtents e → IsInside e is → place e is < 2 ^ 24
place_fits e is h inside = omega (arith, place_below e is inside, length-indices e, h.rows)

-- an index inside stands at its place, and nowhere else
pub place_is_row : (e is : List ℕ) (row : ℕ) → IsInside e is → row ≡ place e is → slice_get (indices e) row ≡ Some is
place_is_row e is row inside same = ap (slice_get (indices e)) same ∙ slice_get-place e is inside

-- ---- from a row to its index

-- `found` are the first k components of the index at `row`, and the rest is the index at row `left` of the `size` rows of the other extents
pub record IsIndexSoFar (e : List ℕ) (row k : ℕ) (found : List ℕ) (left size : ℕ) : Type 0 where
  pub long : length found ≡ k
  pub block : size ≡ product (drop k e)
  pub inner : left < size
  pub leads : (tail : List ℕ) → slice_get (indices (drop k e)) left ≡ Some tail → slice_get (indices e) row ≡ Some (found ++ tail)

pub IsIndexSoFar-more : (e : List ℕ) (row k n : ℕ) (found : List ℕ) (left block : ℕ) → k < length e → n ≡ get_or e k 0 → IsIndexSoFar e row k found left block →
    (0 < n) × (0 < block / n) × IsIndexSoFar e row (k + 1) (found ++ left / (block / n) ∷ []) (left % (block / n)) (block / n)
IsIndexSoFar-more e row k n found left block hk hn h =
    let ns = drop (k + 1) e in
    let w = product (drop (k + 1) e) in
    let parts : drop k e ≡ n ∷ drop (k + 1) e = drop_more e k 0 hk ∙ ap (λ x. x ∷ drop (k + 1) e) (sym hn) in
    let whole : block ≡ n * product (drop (k + 1) e) = h.block ∙ ap product parts in
    let some : 0 < product (drop (k + 1) e) = wide n (product (drop (k + 1) e)) left (omega (arith, h.inner)) in
    let positive : 0 < n = wide (product (drop (k + 1) e)) n left (omega (arith, h.inner)) in
    let each : block / n ≡ product (drop (k + 1) e) = ap (λ x. x / n) whole ∙ mul-div_cancel_left (product (drop (k + 1) e)) positive in
    let low : left / product (drop (k + 1) e) < n = div_below left (product (drop (k + 1) e)) n some (omega (arith, h.inner)) in
    let inner : left % product (drop (k + 1) e) < product (drop (k + 1) e) = mod_below left (product (drop (k + 1) e)) some in
    let split : left ≡ left / product (drop (k + 1) e) * product (drop (k + 1) e) + left % product (drop (k + 1) e) = sym (div-add-mod' left (product (drop (k + 1) e))) in
    let at = slice_get-indices n (drop (k + 1) e) (left / product (drop (k + 1) e)) (left % product (drop (k + 1) e)) left low inner split in
    let step : IsIndexSoFar e row (k + 1) (found ++ left / product (drop (k + 1) e) ∷ []) (left % product (drop (k + 1) e)) (product (drop (k + 1) e)) =
    grind (arith, length-append, slice_get, option_map, append_assoc) in
    (positive, omega (arith, each, some), subst (λ (x : ℕ). IsIndexSoFar e row (k + 1) (found ++ left / x ∷ []) (left % x) x) (sym each) step)

pub index_all : (e : List ℕ) (row k : ℕ) (found : List ℕ) (left block : ℕ) → length e ≤ k → IsIndexSoFar e row k found left block → slice_get (indices e) row ≡ Some found
unfolding indices
index_all e row k found left block hk h =
    let none : drop k e ≡ [] = drop_all k e hk in
    let one : block ≡ 1 = h.block ∙ ap product none in
    let zero_left : left ≡ 0 = omega (arith, h.inner) in
    h.leads [] (ap (λ xs. slice_get (indices xs) left) none ∙ ap (λ x. slice_get ([] ∷ []) x) zero_left)
    ∙ ap Some (append-nil found)
