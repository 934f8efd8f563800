use Rattle.subviews.proofs.Imports.{◌+◌, ◌-◌, ◌≤◌, IsFilled, IsWalk}
use Rattle.subviews.proofs.rounds.fill.Given as goal

abbrev pub invariant-loop-row : goal.invariant-loop-row
invariant-loop-row g l = record {
  filled : IsFilled l.initial.view l.view l.initial.buffer l.buffer l.plan l.row;
  walk : IsWalk l.plan.window.now l.walk l.row;
}

abbrev pub decreases-loop-row : goal.decreases-loop-row
decreases-loop-row g l = l.count - l.row

abbrev pub invariant-loop-outer : goal.invariant-loop-outer
invariant-loop-outer g l = record {
  low : l.run.first ≤ l.outer;
  high : l.outer ≤ l.run.first + l.run.rows;
  filled : IsFilled l.fn.view l.view l.fn.buffer l.buffer l.plan (l.row + (l.outer - l.run.first));
}
