use Rattle.linearize.proofs.Imports.{arith}
use Rattle.linearize.proofs.SlotLemmas.{same_length}
use Rattle.linearize.proofs.MortonLemmas.{front_all}
use Rattle.linearize.proofs.place_by_digits.Goals as goal

pub returns : goal.returns
returns c =
    let long = same_length c.args.extents.now c.args.index.now c.requires.inside in
    front_all c.args.index.now c.loop-d.d c.loop-d.place (omega arith) (omega arith) c.loop-d.invariant
