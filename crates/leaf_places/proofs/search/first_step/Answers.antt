use Rattle.record_dim.specs.Std.{◌≡◌, ◌+◌, ◌<◌, arith}
use Rattle.leaf_places.proofs.Leading.{some_later}
use Rattle.leaf_places.proofs.search.first_step.Goals as goal

pub returns : goal.returns
returns g c blob way is begins =
    some_later c.step_to.result (1 < g.M.Mapping.slot_count c.args.mapping.now) (λ n. c.args.from + n ≡ way 1)
    (c.step_to.ensures blob (way 1) (is.stands 1 (omega (arith, c.if-slots-lt2.false, c.slots.ensures))) (omega (arith, begins, is.upward 1)))
