use Rattle.blob_file.proofs.Imports.{◌≡◌, ◌<◌, ℕ, true, get_or, pos, IsDeclared}
use Rattle.blob_file.proofs.fill.are_declared.Given as goal

abbrev pub invariant-loop-low : goal.invariant-loop-low
invariant-loop-low l = l.all ≡ true → (k : ℕ) → k < l.low-index → IsDeclared l.fn.kind (get_or l.lows k (pos 0))
