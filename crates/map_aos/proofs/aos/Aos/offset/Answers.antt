use Rattle.map_aos.proofs.Imports.{arith}
use Rattle.map_aos.proofs.Blob.{offset_fits}
use Rattle.map_aos.proofs.aos.Aos.offset.Goals as goal

pub returns-clause-low : goal.returns-clause-low
returns-clause-low c =
    let m = c.args.self.now in
    offset_fits m.form m.slots m.cells.items m.offsets.items m.stride m.stored c.args.cell _ m.bound (omega arith) c.requires c.index.ensures
