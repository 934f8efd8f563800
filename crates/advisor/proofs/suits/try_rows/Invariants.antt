use Rattle.advisor.proofs.Imports.{◌≡◌, ◌≤◌, ◌-◌, length, map, take, leaf_count_of, after_log, Read, all_accesses, tried_all}
use Rattle.advisor.proofs.suits.try_rows.Given as goal

abbrev pub invariant-loop-first : goal.invariant-loop-first
invariant-loop-first g l = record {
  low : l.first ≤ l.count;
  size : length l.buffer ≡ 256;
  view : l.view ≡ after_log l.initial.view (all_accesses Read (leaf_count_of l.initial.view) l.first);
  trials : l.trials ≡ map (tried_all l.initial.view.mode (take l.first l.initial.view.rows)) l.initial.trials;
}

abbrev pub decreases-loop-first : goal.decreases-loop-first
decreases-loop-first g l = l.count - l.first
