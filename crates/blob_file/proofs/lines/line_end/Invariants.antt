use Rattle.blob_file.proofs.Imports.{◌≡◌, ◌<◌, ℕ, get_or}
use Rattle.blob_file.proofs.lines.line_end.Given as goal

abbrev pub invariant-loop-at : goal.invariant-loop-at
invariant-loop-at l = (k : ℕ) → k < l.at → get_or l.bytes k 0 ≡ 10 → ⊥
