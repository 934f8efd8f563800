-- From each row of a window a term reads as far away.
use Rattle.subviews.proofs.Imports.{◌≡◌, ℕ, zero, suc, ◌+◌, ◌*◌, ◌<◌, ◌≤◌, Bool, true, false, ℤ, pos, ◌+ℤ◌, ◌-ℤ◌, List, [], ◌∷◌, ◌++◌, length, map, take, get_or, filter, ◌^◌, All, Contains, Some, slice_set, ⊎_elim, refl, ap, sym, subst, ◌∙◌, arith, nat_lt, slice_get, if◌then◌else◌, list_all, enumerate_from, signed_items, and_parts, ltb-true, cases_eq, ints, take_all, take_more, get_or-set_same, get_or-set_other, AllPass-from_list_all, passes_at_first, slice_get-get_or, slice_get_within, get_or_from_slice_get, indices, product, IsInside, IsExtents, place, entry_at, same_row, holds, numbers_of, inside_length, index_at, entry_of_row, index_at_inside, WindowOf, rows_of, away, row_from, reaches, Term, IsFar}

-- ---- the rows of a window are rows of the array

number_below : {X : Type 0} (test : X → Bool) (n : ℕ) (xs : List X) (k r : ℕ) → slice_get (numbers_of test n xs) k ≡ Some r → r < n + length xs
number_below test n [] k r at = cc
number_below {X} test n (x ∷ xs) k r at = by_test (test x) k (λ k at. number_below test (n + 1) xs k r at) at where
  by_test : (t : Bool) (k : ℕ) → ((k : ℕ) → slice_get (numbers_of test (n + 1) xs) k ≡ Some r → r < n + 1 + length xs)
      → slice_get (map (λ e. e.0) (if t then (n, x) ∷ filter (λ e. test e.1) (enumerate_from (n + 1) xs) else filter (λ e. test e.1) (enumerate_from (n + 1) xs))) k ≡ Some r → r < n + length (x ∷ xs)
  by_test true zero rest at = (let same : n ≡ r = cc in omega (arith, same))
  by_test true (suc k) rest at = omega (arith, rest k at)
  by_test false k rest at = omega (arith, rest k at)

pub row_inside : (window : WindowOf) (row : ℕ) → Contains (rows_of window) row → row < length (indices window.0)
row_inside window row held =
    let below = number_below (holds window.1) 0 (indices window.0) held.0 row (slice_get-get_or (rows_of window) held.0 row held.1 ∙ ap (λ (r : ℕ). Some r) held.2) in omega (arith, below)

-- ---- what a reach says

pub reach_inside : (window : WindowOf) (offsets : List ℤ) (row : ℕ) → reaches window offsets ≡ true → Contains (rows_of window) row → row_from window.0 row offsets < length (indices window.0)
reach_inside window offsets row reach held = grind (arith, nat_lt, and_parts, list_all, AllPass-from_list_all, ltb-true)

-- ---- the index that is so far away

pub found : (e : List ℕ) (row : ℕ) (offsets : List ℤ) → row_from e row offsets < length (indices e) → map pos (index_at e (row_from e row offsets)) ≡ away (index_at e row) offsets
found e row offsets small = grind (arith, signed_items, passes_at_first)

-- two indices with others as far away
pub same_way : (e one to other toward : List ℕ) (offsets : List ℤ) → IsInside e one → IsInside e to → IsInside e other → IsInside e toward
    → map pos to ≡ away one offsets → map pos toward ≡ away other offsets → place e to + place e other ≡ place e toward + place e one
same_way [] one to other toward offsets a b c d first second = refl
same_way (n ∷ ns) (i ∷ one) (j ∷ to) (i' ∷ other) (j' ∷ toward) (offset ∷ offsets) a b c d first second =
    let here : pos j ≡ pos i +ℤ offset = cc in
    let there : pos j' ≡ pos i' +ℤ offset = cc in
    let rest : map pos to ≡ away one offsets = cc in
    let rest' : map pos toward ≡ away other offsets = cc in
    let heads : j + i' ≡ j' + i = omega (arith, ints, here, there) in
    let blocks : (j + i') * product ns ≡ (j' + i) * product ns = ap (λ (x : ℕ). x * product ns) heads in
    omega (arith, blocks, same_way ns one to other toward offsets a.1 b.1 c.1 d.1 rest rest')
same_way e one to other toward offsets a b c d first second = absurd (grind arith)

place_at : (e : List ℕ) (row : ℕ) → row < length (indices e) → place e (index_at e row) ≡ row
place_at e row small = (entry_at e row (index_at e row) (entry_of_row e row small)).1

-- so what is as far away from one row is as far away from each
pub far_from_one : (window : WindowOf) (offsets : List ℤ) (first : ℕ) (far : ℤ) → reaches window offsets ≡ true → Contains (rows_of window) first
    → far ≡ pos (row_from window.0 first offsets) -ℤ pos first → IsFar window offsets far
far_from_one window offsets first far reach held is = λ row in_rows.
    let e = window.0 in
    let low = row_inside window row in_rows in
    let low' = row_inside window first held in
    let to = reach_inside window offsets row reach in_rows in
    let to' = reach_inside window offsets first reach held in
    let both = same_way e (index_at e row) (index_at e (row_from e row offsets)) (index_at e first) (index_at e (row_from e first offsets)) offsets
    (index_at_inside e row low) (index_at_inside e (row_from e row offsets) to) (index_at_inside e first low') (index_at_inside e (row_from e first offsets) to') (found e row offsets to) (found e first offsets to') in
    let sums : row_from e row offsets + first ≡ row_from e first offsets + row =
    omega (arith, both, place_at e row low, place_at e first low', place_at e (row_from e row offsets) to, place_at e (row_from e first offsets) to') in
    omega (arith, ints, sums, is)

-- ---- its components, one by one

pub away_at : (index to : List ℕ) (offsets : List ℤ) (d : ℕ) → map pos to ≡ away index offsets → d < length to → pos (get_or to d 0) ≡ pos (get_or index d 0) +ℤ get_or offsets d (pos 0)
away_at index [] offsets d is small = absurd (omega (arith, small))
away_at (i ∷ index) (j ∷ to) (offset ∷ offsets) zero is small = cc
away_at (i ∷ index) (j ∷ to) (offset ∷ offsets) (suc d) is small =
    let rest : map pos to ≡ away index offsets = cc in away_at index to offsets d rest (omega (arith, small))
away_at index to offsets d is small = absurd (cc)

-- the index that is so far away from that of a row
abbrev pub target : WindowOf → List ℤ → ℕ → List ℕ
target window offsets first = index_at window.0 (row_from window.0 first offsets)

inside_small : (e index : List ℕ) (d : ℕ) → All (λ n. n < 2 ^ 32) e → IsInside e index → d < length e → get_or index d 0 < 2 ^ 32
inside_small (n ∷ ns) (i ∷ index) zero narrow inside small = (let first : n < 2 ^ 32 = narrow 0 0 (omega arith) in omega (arith, inside.0, first))
inside_small (n ∷ ns) (i ∷ index) (suc d) narrow inside small = inside_small ns index d (λ k other low. narrow (suc k) other (omega (arith, low))) inside.1 (omega (arith, small))
inside_small ns index d narrow inside small = absurd (grind arith)

-- what stands at a place among the rows of a window is one of them
pub row_held : (window : WindowOf) (k row : ℕ) → slice_get (rows_of window) k ≡ Some row → Contains (rows_of window) row
row_held window k row at = (k, slice_get_within (rows_of window) k row at, get_or_from_slice_get (rows_of window) k row row at)

-- a component of it: that of the row, so far away, and both are small
pub record IsStep (to from : ℕ) (offset : ℤ) : Type 0 where
  pub away : pos to ≡ pos from +ℤ offset
  pub small : to < 2 ^ 32
  pub near : from < 2 ^ 32

pub step_at : (window : WindowOf) (offsets : List ℤ) (first d : ℕ) (extents from : List ℕ) → extents ≡ window.0 → IsExtents extents → reaches window offsets ≡ true
    → slice_get (rows_of window) 0 ≡ Some first → slice_get (indices extents) first ≡ Some from → d < length extents → IsStep (get_or (target window offsets first) d 0) (get_or from d 0) (get_or offsets d (pos 0))
step_at window offsets first d extents from same is reach held at small =
    let to = reach_inside window offsets first reach (row_held window 0 first held) in
    let here : from ≡ index_at window.0 first = sym (get_or_from_slice_get (indices window.0) first from [] (subst (λ (e : List ℕ). slice_get (indices e) first ≡ Some from) same at)) in
    let inside = index_at_inside window.0 (row_from window.0 first offsets) to in
    let within : d < length window.0 = subst (λ (e : List ℕ). d < length e) same small in
    let narrow = (subst (λ (e : List ℕ). IsExtents e) same is).narrow in
    record {
      away = away_at (index_at window.0 first) (target window offsets first) offsets d (found window.0 first offsets to) (omega (arith, within, inside_length window.0 (target window offsets first) inside))
          ∙ ap (λ (index : List ℕ). pos (get_or index d 0) +ℤ get_or offsets d (pos 0)) (sym here);
      small = inside_small window.0 (target window offsets first) d narrow inside within;
      near = subst (λ (index : List ℕ). get_or index d 0 < 2 ^ 32) (sym here)
          (inside_small window.0 (index_at window.0 first) d narrow (index_at_inside window.0 first (row_inside window first (row_held window 0 first held))) within);
    }

-- one component more
pub step_more : (window : WindowOf) (offsets : List ℤ) (first d : ℕ) (found after : List ℕ) (value : ℕ) → reaches window offsets ≡ true → slice_get (rows_of window) 0 ≡ Some first → d < length window.0
    → found ≡ take d (target window offsets first) → after ≡ found ++ value ∷ [] → value ≡ get_or (target window offsets first) d 0 → after ≡ take (d + 1) (target window offsets first)
step_more window offsets first d found after value reach held small so_far push here =
    let e = window.0 in
    let to = target window offsets first in
    let inside = index_at_inside e (row_from e first offsets) (reach_inside window offsets first reach (row_held window 0 first held)) in
    push ∙ ap (λ (front : List ℕ). front ++ value ∷ []) so_far ∙ ap (λ (n : ℕ). take d to ++ n ∷ []) here ∙ sym (take_more to d 0 (omega (arith, small, inside_length e to inside)))

-- its front is the whole of it
pub whole_target : (window : WindowOf) (offsets : List ℤ) (first d : ℕ) → reaches window offsets ≡ true → Contains (rows_of window) first → length window.0 ≤ d → take d (target window offsets first) ≡ target window offsets first
whole_target window offsets first d reach held past =
    let e = window.0 in
    take_all d (target window offsets first) (omega (arith, past, inside_length e (target window offsets first) (index_at_inside e (row_from e first offsets) (reach_inside window offsets first reach held))))

-- with all components it is the index of the row that is read
pub landed : (window : WindowOf) (offsets : List ℤ) (first d row : ℕ) (extents index : List ℕ) → extents ≡ window.0 → reaches window offsets ≡ true → slice_get (rows_of window) 0 ≡ Some first → length extents ≤ d
    → index ≡ take d (target window offsets first) → slice_get (indices extents) row ≡ Some index → row ≡ row_from window.0 first offsets
landed window offsets first d row extents index same reach held past so_far at =
    let e = window.0 in
    let in_rows = row_held window 0 first held in
    let past' : length e ≤ d = subst (λ (x : List ℕ). length x ≤ d) same past in
    let whole : index ≡ target window offsets first = so_far ∙ whole_target window offsets first d reach in_rows past' in
    let at' : slice_get (indices e) row ≡ Some index = subst (λ (x : List ℕ). slice_get (indices x) row ≡ Some index) same at in
    same_row e (target window offsets first) row (row_from e first offsets) (at' ∙ ap (λ (x : List ℕ). Some x) whole) (entry_of_row e (row_from e first offsets) (reach_inside window offsets first reach in_rows))

-- ---- the distances of the terms, one by one

abbrev pub AreFar : WindowOf → List Term → List ℤ → ℕ → Type 0
AreFar window terms far count = (place : ℕ) (other : Term) → place < count → IsFar window (get_or terms place other).offsets.items (get_or far place (pos 0))

pub far_more : (window : WindowOf) (terms : List Term) (far : List ℤ) (k : ℕ) (term : Term) (value : ℤ) → k < length far → k < length terms → term ≡ get_or terms k term → IsFar window term.offsets.items value
    → AreFar window terms far k → AreFar window terms (slice_set far k value) (k + 1)
far_more window terms far k term value small within at here before = λ place other low.
    ⊎_elim
    (λ (same : place ≡ k). grind (arith, get_or_from_slice_get, slice_get-get_or, slice_set, get_or-set_same))
    (λ (apart : place ≡ k → ⊥).
    subst (λ (z : ℤ). IsFar window (get_or terms place other).offsets.items z) (sym (get_or-set_other far k place value (pos 0) apart)) (before place other (omega (arith, low, apart))))
    (cases_eq place k)
