-- Logs of rows from one on.
use Rattle.lane_kernels.proofs.Imports.{◌≡◌, ℕ, zero, suc, ◌+◌, List, ◌∷◌, ◌++◌, ap, ◌∙◌, arith, flat_map, range_with_len, flat_map-append}

-- numbers from one on, after those before
pub ranges : (first row step : ℕ) → range_with_len first (row + step) ≡ range_with_len first row ++ range_with_len (first + row) step
ranges first zero step = grind (arith, range_with_len)
ranges first (suc row) step =
    let more : suc row + step ≡ suc (row + step) = omega arith in
    let here : first + 1 + row ≡ first + suc row = omega arith in
    ap (range_with_len first) more ∙ ap (λ (ns : List ℕ). first ∷ ns) (ranges (first + 1) row step ∙ ap (λ (n : ℕ). range_with_len (first + 1) row ++ range_with_len n step) here)

pub logs_from : {A : Type 0} (logs : ℕ → List A) (row step : ℕ) → flat_map logs (range_with_len 0 (row + step)) ≡ flat_map logs (range_with_len 0 row) ++ flat_map logs (range_with_len row step)
logs_from logs row step = grind (arith, flat_map, ranges, range_with_len, flat_map-append)
