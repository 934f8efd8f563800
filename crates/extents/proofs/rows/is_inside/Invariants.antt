use Rattle.extents.proofs.Imports.{◌≡◌, length, zip_first, zip_second, iter_rest, ◌↔◌, IsInside}
use Rattle.extents.proofs.rows.is_inside.Given as goal

abbrev pub invariant-loop-component : goal.invariant-loop-component
invariant-loop-component l =
    (goal.iterator-loop-component).can_next l.component-iterator ×
    (goal.iterator-loop-component).is_finite l.component-iterator ×
    (length (iter_rest (zip_first l.component-iterator)) ≡ length (iter_rest (zip_second l.component-iterator))) ×
    (IsInside l.sizes l.index ↔ IsInside (iter_rest (zip_second l.component-iterator)) (iter_rest (zip_first l.component-iterator)))
