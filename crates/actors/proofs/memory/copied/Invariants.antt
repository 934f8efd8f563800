use Rattle.actors.proofs.Imports.{◌≡◌, ◌<◌, ℕ, length, get_or}
use Rattle.actors.proofs.memory.copied.Given as goal

abbrev pub invariant-loop-at : goal.invariant-loop-at
invariant-loop-at l = record {
  count : length l.copy ≡ length l.blob;
  front : (k : ℕ) → k < l.at → get_or l.copy k 0 ≡ get_or l.blob k 0;
}
