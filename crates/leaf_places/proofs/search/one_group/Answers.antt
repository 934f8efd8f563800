use Rattle.record_dim.specs.Std.{refl}
use Rattle.leaf_places.proofs.search.one_group.Goals as goal

pub returns-in_err-first : goal.returns-in_err-first
returns-in_err-first g c blob way is = absurd (c.in_err-first.ensures.only blob (way 0) (is.stands 0 c.requires.some))

pub returns-in_err-lane : goal.returns-in_err-lane
returns-in_err-lane g c blob way is = absurd (c.in_err-lane.ensures blob way is (c.in_ok-first.ensures.only blob (way 0) (is.stands 0 c.requires.some)).1)

pub returns : goal.returns
returns g c blob way is =
    let first = c.in_ok-first.ensures.only blob (way 0) (is.stands 0 c.requires.some) in
    record { same_blob = first.0; first = first.1; second = c.in_ok-lane.ensures blob way is first.1; alone = c.slots.ensures; last = refl }
