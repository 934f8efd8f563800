use Rattle.record_dim.specs.Std.{refl, below_more}
use Rattle.leaf_places.proofs.search.rows_led.Goals as goal

pub returns-then-not-is_led-clause-led : goal.returns-then-not-is_led-clause-led
returns-then-not-is_led-clause-led g c = c.loop-row.invariant

pub loop-row-preserved : goal.loop-row-preserved
loop-row-preserved g c = below_more _ _ c.loop-row.invariant (c.if-not-is_led.ensures.yes refl)
