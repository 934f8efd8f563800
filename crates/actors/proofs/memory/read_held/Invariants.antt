use Rattle.actors.proofs.Imports.{◌≡◌, ◌<◌, ℕ, pos, length, get_or, row_held}
use Rattle.actors.proofs.memory.read_held.Given as goal

abbrev pub invariant-loop-leaf : goal.invariant-loop-leaf
invariant-loop-leaf l = record {
  count : length l.values ≡ length l.initial.values;
  front : (k : ℕ) → k < l.leaf → get_or l.values k (pos 0) ≡ get_or (row_held l.view l.blobs l.row) k (pos 0);
}
