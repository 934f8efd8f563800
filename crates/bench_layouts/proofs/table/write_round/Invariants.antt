use Rattle.bench_layouts.specs.Inner.Tables.{IsMeasured}
use Rattle.bench_layouts.proofs.table.write_round.Given as goal

abbrev pub invariant-loop-row : goal.invariant-loop-row
invariant-loop-row g l = IsMeasured l.rows l.view
