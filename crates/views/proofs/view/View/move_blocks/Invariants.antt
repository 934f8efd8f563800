use Rattle.views.proofs.Imports.{◌≡◌, ◌+◌, ◌*◌, ◌≤◌, length, IfSome, blocks, array_of, size_of, IsRunMoved, with_rows, leaf_count_of, leaf_type_of}
use Rattle.views.proofs.view.View.move_blocks.Given as goal

-- the slots of the pieces so far
abbrev pub invariant-loop-k : goal.invariant-loop-k
invariant-loop-k g l = record {
  same : l.self ≡ with_rows l.fn.self l.self.rows;
  moved : IfSome (array_of l.fn.self.mapping) (λ array. IsRunMoved array.0 l.fn.self.extents (length l.fn.self.rows) (leaf_count_of l.fn.self)
      l.leaf l.slot (l.k * l.n) l.source.rows l.fn.self.rows l.self.rows);
  steps : l.steps ≤ l.fn.steps + l.k * blocks (l.n * size_of (leaf_type_of l.fn.self l.leaf));
}
