use Rattle.record_dim.specs.Std.{◌≡◌}
use Rattle.bench_layouts.specs.Inner.Tables.{measured_fields}
use Rattle.bench_layouts.proofs.kernels.run_rounds.Given as goal

abbrev pub invariant-loop-round : goal.invariant-loop-round
invariant-loop-round g l = l.view.fields ≡ measured_fields
