-- The rows of a window grow, so those between two that lie as far apart as their places lie one behind another.
use Rattle.subviews.proofs.Imports.{◌≡◌, ℕ, zero, suc, ◌+◌, ◌-◌, ◌<◌, ◌≤◌, Bool, true, false, List, [], ◌∷◌, length, map, get_or, filter, Some, ap, subst, ◌∙◌, arith, slice_get, if◌then◌else◌, enumerate_from, slice_get-get_or, slice_get_within, indices, holds, numbers_of, WindowOf, rows_of, AreConsecutive, IsRunOf, Run}
use Rattle.subviews.proofs.Ways.{row_held, row_inside}

-- none is below the first number
number_low : {X : Type 0} (test : X → Bool) (n : ℕ) (xs : List X) (k r : ℕ) → slice_get (numbers_of test n xs) k ≡ Some r → n + k ≤ r
number_low test n [] k r at = cc
number_low {X} test n (x ∷ xs) k r at = by_test (test x) k (λ k at. number_low test (n + 1) xs k r at) at where
  by_test : (t : Bool) (k : ℕ) → ((k : ℕ) → slice_get (numbers_of test (n + 1) xs) k ≡ Some r → n + 1 + k ≤ r)
      → slice_get (map (λ e. e.0) (if t then (n, x) ∷ filter (λ e. test e.1) (enumerate_from (n + 1) xs) else filter (λ e. test e.1) (enumerate_from (n + 1) xs))) k ≡ Some r → n + k ≤ r
  by_test true zero rest at = (let same : n ≡ r = cc in omega (arith, same))
  by_test true (suc k) rest at = omega (arith, rest k at)
  by_test false k rest at = omega (arith, rest k at)

-- numbers lie at least as far apart as their places
number_grows : {X : Type 0} (test : X → Bool) (n : ℕ) (xs : List X) (j k one two : ℕ) → slice_get (numbers_of test n xs) j ≡ Some one → slice_get (numbers_of test n xs) (j + k) ≡ Some two → one + k ≤ two
number_grows test n [] j k one two at there = cc
number_grows {X} test n (x ∷ xs) j k one two at there = by_test (test x) j (λ j. number_grows test (n + 1) xs j k one two) (λ k. number_low test (n + 1) xs k two) at there where
  by_test : (t : Bool) (j : ℕ) → ((j : ℕ) → slice_get (numbers_of test (n + 1) xs) j ≡ Some one → slice_get (numbers_of test (n + 1) xs) (j + k) ≡ Some two → one + k ≤ two)
      → ((k : ℕ) → slice_get (numbers_of test (n + 1) xs) k ≡ Some two → n + 1 + k ≤ two)
      → slice_get (map (λ e. e.0) (if t then (n, x) ∷ filter (λ e. test e.1) (enumerate_from (n + 1) xs) else filter (λ e. test e.1) (enumerate_from (n + 1) xs))) j ≡ Some one
      → slice_get (map (λ e. e.0) (if t then (n, x) ∷ filter (λ e. test e.1) (enumerate_from (n + 1) xs) else filter (λ e. test e.1) (enumerate_from (n + 1) xs))) (j + k) ≡ Some two
      → one + k ≤ two
  by_test true zero rest low at there = (let here : n ≡ one = cc in
      let start : 0 + k ≡ k = omega arith in
      first k here low (subst (λ (m : ℕ). slice_get (n ∷ numbers_of test (n + 1) xs) m ≡ Some two) start there)) where
        first : (k : ℕ) → n ≡ one → ((k : ℕ) → slice_get (numbers_of test (n + 1) xs) k ≡ Some two → n + 1 + k ≤ two) → slice_get (n ∷ numbers_of test (n + 1) xs) k ≡ Some two → one + k ≤ two
        first zero here low there = (let same : n ≡ two = cc in omega (arith, here, same))
        first (suc k) here low there = omega (arith, here, low k there)
  by_test true (suc j) rest low at there = (let next : suc j + k ≡ suc (j + k) = omega arith in rest j at (subst (λ (m : ℕ). slice_get (n ∷ numbers_of test (n + 1) xs) m ≡ Some two) next there))
  by_test false j rest low at there = rest j at there

pub rows_grow : (window : WindowOf) (j k one two : ℕ) → slice_get (rows_of window) j ≡ Some one → slice_get (rows_of window) (j + k) ≡ Some two → one + k ≤ two
rows_grow window j k one two at there = number_grows (holds window.1) 0 (indices window.0) j k one two at there

-- the rows between two ends
pub run_between : (window : WindowOf) (row last first end : ℕ) → row ≤ last → slice_get (rows_of window) row ≡ Some first → slice_get (rows_of window) last ≡ Some end → end ≡ first + (last - row)
    → AreConsecutive (rows_of window) row first (last - row + 1)
run_between window row last first end ordered at there apart = λ k low.
    let numbers = rows_of window in
    let one = get_or numbers (row + k) 0 in
    let here : slice_get numbers (row + k) ≡ Some one = slice_get-get_or numbers (row + k) 0 (omega (arith, low, ordered, slice_get_within numbers last end there)) in
    let past : last ≡ row + k + (last - (row + k)) = omega (arith, low, ordered) in
    let before = rows_grow window row k first one at here in
    let behind = rows_grow window (row + k) (last - (row + k)) one end here (subst (λ (m : ℕ). slice_get numbers m ≡ Some end) past there) in
    let same : one ≡ first + k = omega (arith, apart, before, behind, low, ordered) in
    here ∙ ap (λ (m : ℕ). Some m) same

-- behind its first rows
pub run_behind : (numbers : List ℕ) (row first count rows : ℕ) → AreConsecutive numbers row first count → rows ≤ count → AreConsecutive numbers (row + rows) (first + rows) (count - rows)
run_behind numbers row first count rows run inside = λ k low.
    let place : row + (rows + k) ≡ row + rows + k = omega arith in
    let same : first + (rows + k) ≡ first + rows + k = omega arith in
    subst (λ (m : ℕ). slice_get numbers m ≡ Some (first + rows + k)) place (run (rows + k) (omega (arith, low, inside)) ∙ ap (λ (m : ℕ). Some m) same)

-- its first row
pub run_first : (numbers : List ℕ) (row first count : ℕ) → AreConsecutive numbers row first count → 0 < count → slice_get numbers row ≡ Some first
run_first numbers row first count run some = grind (arith, slice_get)

-- its rows are rows of the array
pub run_inside : (window : WindowOf) (run : Run) → IsRunOf window run → run.first + run.rows ≤ length (indices window.0)
run_inside window run is =
    let last = run.rows - 1 in
    let low : last < run.rows = omega (arith, is.some) in
    let below = row_inside window (run.first + last) (row_held window (run.row + last) (run.first + last) (is.each last low)) in
    omega (arith, is.some, below)

-- a row of the array among them
pub run_at : (window : WindowOf) (run : Run) (row outer : ℕ) → IsRunOf window run → run.row ≡ row → run.first ≤ outer → outer < run.first + run.rows
    → slice_get (rows_of window) (row + (outer - run.first)) ≡ Some outer
run_at window run row outer is here low high = grind (arith, slice_get)
