use Rattle.extents.proofs.Imports.{◌≡◌, length, zip_first, zip_second, iter_rest, ◌↔◌, IsWindow}
use Rattle.extents.proofs.window.is_window.Given as goal

abbrev pub invariant-loop-span : goal.invariant-loop-span
invariant-loop-span l =
    (goal.iterator-loop-span).can_next l.span-iterator ×
    (goal.iterator-loop-span).is_finite l.span-iterator ×
    (length (iter_rest (zip_first l.span-iterator)) ≡ length (iter_rest (zip_second l.span-iterator))) ×
    (IsWindow l.extents l.spans ↔ IsWindow (iter_rest (zip_second l.span-iterator)) (iter_rest (zip_first l.span-iterator)))
