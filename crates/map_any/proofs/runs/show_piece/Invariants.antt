-- the bits of the piece so far
use Rattle.map_any.proofs.Imports.{◌≡◌, ℕ, ◌+◌, ◌<◌, ◌≤◌, length, shown_at}
use Rattle.places.specs.declared.piece.RunOwner.TheVariants.{Leaf}
use Rattle.map_any.proofs.runs.show_piece.Given as goal

abbrev pub invariant-loop-k : goal.invariant-loop-k
invariant-loop-k l = record {
  each : length l.owners ≡ length l.initial.owners;
  within : (j : ℕ) → j < l.k → shown_at l.owners (l.piece.bit + j) ≡ Leaf l.row l.leaf (l.low + j);
  before : (place : ℕ) → place < l.piece.bit → shown_at l.owners place ≡ shown_at l.initial.owners place;
  behind : (place : ℕ) → l.piece.bit + l.piece.bits ≤ place → shown_at l.owners place ≡ shown_at l.initial.owners place;
}
