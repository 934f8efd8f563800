use Rattle.views.proofs.Imports.{◌≡◌, ◌+◌, ◌*◌, length, blocks, IsMovedEach}
use Rattle.views.proofs.pieces.move_equal.Given as goal

-- the pieces so far
abbrev pub invariant-loop-k : goal.invariant-loop-k
invariant-loop-k g l = record {
  size : length l.target ≡ length l.initial.target;
  moved : IsMovedEach l.to.byte l.to.step l.source l.from.byte l.from.step l.len l.k l.initial.target l.target;
  steps : l.steps ≡ l.initial.steps + l.k * blocks l.len;
}
