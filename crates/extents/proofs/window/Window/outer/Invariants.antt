use Rattle.extents.proofs.Imports.{◌≡◌, ◌++◌, zip_first, zip_second, iter_rest, moved, AreNarrow}
use Rattle.extents.proofs.window.Window.outer.Given as goal

abbrev pub invariant-loop-component : goal.invariant-loop-component
invariant-loop-component l =
    (goal.iterator-loop-component).can_next l.component-iterator ×
    (goal.iterator-loop-component).is_finite l.component-iterator ×
    (moved (iter_rest (zip_second l.initial.component-iterator)) (iter_rest (zip_first l.initial.component-iterator))
    ≡ l.index.items ++ moved (iter_rest (zip_second l.component-iterator)) (iter_rest (zip_first l.component-iterator))) ×
    AreNarrow (moved (iter_rest (zip_second l.component-iterator)) (iter_rest (zip_first l.component-iterator)))
