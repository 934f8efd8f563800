use Rattle.extents.proofs.Imports.{◌≡◌, ◌<◌, ◌≤◌, length, get_or, ap, ◌∙◌, arith, inside_of_entry, same_row, IsIndexSoFar-more, index_all}
use Rattle.extents.proofs.rows.Extents.index_of.Goals as goal

pub loop-size-preserved : goal.loop-size-preserved
loop-size-preserved c =
    let within : c.loop-size.size-index < length c.args.self.now = omega (arith, ap length c.sizes-size-items.ensures.value) in
    let same : c.from-block.result ≡ get_or c.args.self.now c.loop-size.size-index 0 =
    c.from-block.ensures ∙ ap (λ xs. get_or xs c.loop-size.size-index 0) c.sizes-size-items.ensures.value in
    let more = IsIndexSoFar-more c.args.self.now c.args.row c.loop-size.size-index c.from-block.result c.loop-size.index.items c.loop-size.left c.loop-size.block within same c.loop-size.invariant in
    rw c.push.ensures.items more.2

pub returns-clause-entry : goal.returns-clause-entry
returns-clause-entry c =
    let over : length c.args.self.now ≤ c.loop-size.size-index = omega (arith, ap length c.sizes-size-items.ensures.value) in
    index_all c.args.self.now c.args.row c.loop-size.size-index c.loop-size.index.items c.loop-size.left c.loop-size.block over c.loop-size.invariant

pub returns-clause-inside : goal.returns-clause-inside
returns-clause-inside c =
    let over : length c.args.self.now ≤ c.loop-size.size-index = omega (arith, ap length c.sizes-size-items.ensures.value) in
    inside_of_entry c.args.self.now c.args.row c.loop-size.index.items
    (index_all c.args.self.now c.args.row c.loop-size.size-index c.loop-size.index.items c.loop-size.left c.loop-size.block over c.loop-size.invariant)

pub returns-clause-alone : goal.returns-clause-alone
returns-clause-alone c = λ other at.
    let over : length c.args.self.now ≤ c.loop-size.size-index = omega (arith, ap length c.sizes-size-items.ensures.value) in
    same_row c.args.self.now c.loop-size.index.items other c.args.row at
    (index_all c.args.self.now c.args.row c.loop-size.size-index c.loop-size.index.items c.loop-size.left c.loop-size.block over c.loop-size.invariant)
