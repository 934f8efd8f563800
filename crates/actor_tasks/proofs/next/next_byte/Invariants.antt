use Rattle.actor_tasks.proofs.Imports.{take, AnyTouches, IsNext}
use Rattle.actor_tasks.proofs.next.next_byte.Given as goal

abbrev pub invariant-loop-piece : goal.invariant-loop-piece
invariant-loop-piece l = record {
  so_far : IsNext (AnyTouches (take l.piece-index l.pieces)) l.from l.next;
}
