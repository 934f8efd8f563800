use Rattle.extents.proofs.Imports.{decides_member}
use Rattle.extents.proofs.rows.Extents.holds.Goals as goal

pub returns-clause-member : goal.returns-clause-member
returns-clause-member c = decides_member c.args.self.now c.args.index.now c.is_inside.result (rw c.sizes.ensures.value at c.is_inside.ensures)
