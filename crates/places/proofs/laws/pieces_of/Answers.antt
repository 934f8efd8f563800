use Rattle.places.specs.Layout.{Bit}
use Rattle.places.specs.PlacesLaws.{bits_located}
use Rattle.places.proofs.laws.pieces_of.Goals as goal

pub returns-clause-bits : goal.returns-clause-bits
returns-clause-bits g c = bits_located _ (Bit c.args.slot c.args.cell) 0 _ c.locate.result.items c.locate.ensures.spelled
