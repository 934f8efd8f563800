use Rattle.record_dim.specs.Std.{ℕ, slice_get, arith}
use Rattle.map_split.proofs.Rows.{held_first, held_rest}
use Rattle.map_split.proofs.split.SplitMapping.hold.Goals as goal

pub returns-in-First : goal.returns-in-First
returns-in-First g c =
    let m = c.args.self.now in
    let cell : ℕ = c.args.cell in
    grind (arith, held_first, slice_get)

pub returns-in-Rest : goal.returns-in-Rest
returns-in-Rest g c =
    let m = c.args.self.now in
    let cell : ℕ = c.args.cell in
    grind (arith, held_rest, slice_get)
