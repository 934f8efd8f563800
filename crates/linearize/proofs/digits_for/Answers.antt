use Rattle.linearize.proofs.Imports.{arith}
use Rattle.linearize.proofs.MortonLemmas.{digits_for_is}
use Rattle.linearize.proofs.digits_for.Goals as goal

pub returns-then-greatest-le1-clause-value : goal.returns-then-greatest-le1-clause-value
returns-then-greatest-le1-clause-value c =
    digits_for_is c.args.extents.now c.greatest-greatest.result 0 c.greatest-greatest.ensures (omega arith) (λ b none. absurd (omega arith))
