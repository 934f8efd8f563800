use Rattle.record_dim.specs.Std.{length, ap, ◌∙◌}
use Rattle.record_dim.specs.Prelude.{leaves, Fields}
use Rattle.bench_layouts.proofs.formula.formula.Goals as goal

pub returns-in-Ok : goal.returns-in-Ok
returns-in-Ok c =
    let bound = c.in-Ok.ensures.bound in
    record { leaves_are = bound.leaves_are ∙ ap (λ (fields : Fields). length (leaves fields)) c.in_ok-schema.ensures; rank_is = bound.rank_is }
