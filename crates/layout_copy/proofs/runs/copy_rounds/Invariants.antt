use Rattle.layout_copy.proofs.Lemmas.{◌≡◌, ◌+◌, ◌-◌, ◌%◌, ◌<◌, ◌≤◌, min, with_rows, leaf_count_of, leaf_sizes, steps_before, order_by, AreBelow}
use Rattle.layout_copy.proofs.runs.copy_rounds.Given as goal

-- the rows of the slots so far were copied, and a piece begins here
abbrev pub invariant-loop-slot : goal.invariant-loop-slot
invariant-loop-slot g l = record {
  inside : l.slot ≤ l.from.slots;
  same : l.target ≡ with_rows l.initial.target l.target.rows;
  below : AreBelow (order_by l.initial.target.mapping) l.initial.target.extents (leaf_count_of l.initial.target) l.slot l.source.rows l.target.rows;
  whole : l.slot < l.from.slots → l.slot % min l.from.lanes l.to.lanes ≡ 0;
  steps : l.steps ≤ l.initial.steps + steps_before l.from.slots l.from.lanes l.to.lanes (leaf_sizes l.initial.target.fields) l.slot;
}

abbrev pub decreases-loop-slot : goal.decreases-loop-slot
decreases-loop-slot g l = l.from.slots - l.slot
