use Rattle.linearize.proofs.Imports.{take, reverse, place, IsRowSoFar}
use Rattle.linearize.proofs.place_by_columns.Given as goal

abbrev pub invariant-loop-d : goal.invariant-loop-d
invariant-loop-d l = IsRowSoFar (reverse (take l.d l.extents)) (reverse (take l.d l.index)) l.place (place (reverse l.extents) (reverse l.index))
