use Rattle.layout_copy.proofs.Imports.{◌≡◌, ◌+◌, ◌≤◌, take, array_of, with_rows, leaf_count_of, leaf_sizes, round_steps, order_by, IsPieceMoved}
use Rattle.layout_copy.proofs.runs.copy_round.Given as goal

-- the leaves so far were moved
abbrev pub invariant-loop-leaf : goal.invariant-loop-leaf
invariant-loop-leaf g l = record {
  same : l.target ≡ with_rows l.initial.target l.target.rows;
  moved : IsPieceMoved (order_by l.initial.target.mapping) l.initial.target.extents (leaf_count_of l.initial.target) l.leaf l.slot l.count l.source.rows l.initial.target.rows l.target.rows;
  steps : l.steps ≤ l.initial.steps + round_steps (array_of l.source.mapping) (array_of l.initial.target.mapping) l.initial.target.extents (take l.leaf (leaf_sizes l.initial.target.fields)) l.slot l.count;
}
