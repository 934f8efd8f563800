use Rattle.record_dim.specs.Std.{◌≡◌}
use Rattle.bench_layouts.specs.Inner.Tables.{measured_fields}
use Rattle.bench_layouts.proofs.copying.copy_rounds.Given as goal

abbrev pub invariant-loop-round : goal.invariant-loop-round
invariant-loop-round g l = l.target.fields ≡ measured_fields
