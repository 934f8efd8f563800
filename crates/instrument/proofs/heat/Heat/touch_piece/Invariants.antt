use Rattle.instrument.proofs.Imports.{◌≡◌, heat_counts}
use Rattle.instrument.proofs.Touches.{heated_until}
use Rattle.instrument.proofs.heat.Heat.touch_piece.Given as goal

abbrev pub invariant-loop-number : goal.invariant-loop-number
invariant-loop-number l = heat_counts l.self ≡ heated_until l.times l.first l.number l.earlier l.piece (heat_counts l.fn.self)
