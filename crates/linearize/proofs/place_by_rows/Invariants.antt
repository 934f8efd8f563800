use Rattle.linearize.proofs.Imports.{zip_first, zip_second, iter_rest, place, IsRowSoFar}
use Rattle.linearize.proofs.place_by_rows.Given as goal

abbrev pub invariant-loop-component : goal.invariant-loop-component
invariant-loop-component l =
    (goal.iterator-loop-component).can_next l.component-iterator ×
    (goal.iterator-loop-component).is_finite l.component-iterator ×
    IsRowSoFar (iter_rest (zip_second l.component-iterator)) (iter_rest (zip_first l.component-iterator)) l.place (place l.extents l.index)
