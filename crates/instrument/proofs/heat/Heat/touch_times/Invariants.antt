use Rattle.instrument.proofs.Imports.{◌≡◌, take, heat_counts, heated_times}
use Rattle.instrument.proofs.heat.Heat.touch_times.Given as goal

abbrev pub invariant-loop-at : goal.invariant-loop-at
invariant-loop-at l = heat_counts l.self ≡ heated_times l.times (take l.at l.pieces.items) (heat_counts l.fn.self)
