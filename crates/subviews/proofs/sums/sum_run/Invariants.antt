use Rattle.subviews.proofs.Lemmas.{◌≡◌, length, AreSummed}
use Rattle.subviews.proofs.sums.sum_run.Given as goal

abbrev pub invariant-loop-place : goal.invariant-loop-place
invariant-loop-place g l = record {
  same : l.view ≡ l.fn.view;
  room : length l.read ≡ l.run.rows;
  summed : AreSummed l.fn.view l.plan l.run.first l.run.rows l.place l.sums;
}
