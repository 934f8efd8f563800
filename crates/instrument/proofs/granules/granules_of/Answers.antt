use Rattle.instrument.proofs.Imports.{arith, common_steps}
use Rattle.instrument.proofs.Touches.{granules_are}
use Rattle.instrument.proofs.granules.granules_of.Goals as goal

pub returns : goal.returns
returns c = grind (arith, common_steps, granules_are)

pub returns-then-piece-eq0 : goal.returns-then-piece-eq0
returns-then-piece-eq0 c = grind (arith, common_steps)
