use Rattle.views.proofs.Imports.{◌≡◌, ◌+◌, ◌-◌, ◌<◌, ◌≤◌, ◌||◌, true, length, ◌==◌, IfSome, range_with_len, array_of, size_of, IsRunMoved, with_rows, is_cut, piece_at, leaf_count_of, leaf_type_of, sum_by}
use Rattle.views.proofs.view.View.move_slots.Given as goal

-- the slots so far were moved, and a piece begins here
abbrev pub invariant-loop-done : goal.invariant-loop-done
invariant-loop-done g l = record {
  inside : l.done ≤ l.n;
  same : l.self ≡ with_rows l.initial.self l.self.rows;
  moved : IfSome (array_of l.initial.self.mapping) (λ array. IsRunMoved array.0 l.initial.self.extents (length l.initial.self.rows) (leaf_count_of l.initial.self)
      l.leaf l.slot l.done l.source.rows l.initial.self.rows l.self.rows);
  begins : l.done < l.n → ((l.slot + l.done == l.slot) || is_cut l.from.lanes l.to.lanes (l.slot + l.done)) ≡ true;
  steps : l.steps ≤ l.initial.steps + sum_by (piece_at l.from.lanes l.to.lanes (size_of (leaf_type_of l.initial.self l.leaf)) l.slot (l.slot + l.n)) (range_with_len l.slot l.done);
}

abbrev pub decreases-loop-done : goal.decreases-loop-done
decreases-loop-done g l = l.n - l.done
