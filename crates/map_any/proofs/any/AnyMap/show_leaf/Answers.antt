use Rattle.map_any.proofs.Lemmas.{◌<◌, length, arith, indices, laid_in}
use Rattle.map_any.proofs.any.AnyMap.show_leaf.Goals as goal

pub returns-clause-shown : goal.returns-clause-shown
returns-clause-shown c = λ row place bit owner.
    let m = c.args.self.now in
    let row_in : row < length (indices m.extents) = ((laid_in m).owned c.args.blob place row c.args.leaf bit owner).slot_in in
    c.loop-row.invariant.shown row (omega arith) place bit owner
