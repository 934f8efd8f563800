use Rattle.bench_layouts.specs.Inner.Tables.{IsMeasured}
use Rattle.bench_layouts.proofs.table.read_rounds.Given as goal

abbrev pub invariant-loop-round : goal.invariant-loop-round
invariant-loop-round g l = IsMeasured l.rows l.view
