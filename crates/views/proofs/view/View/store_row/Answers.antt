use Rattle.views.proofs.Lemmas.{arith, ◌≡◌, ◌∙◌, [], sym, get_or, length, to_z-of_z, common_steps, leaf_stored, row_stored}
use Rattle.views.proofs.view.View.store_row.Goals as goal

pub loop-leaf-preserved : goal.loop-leaf-preserved
loop-leaf-preserved g c = grind (arith, common_steps, leaf_stored, to_z-of_z)

pub returns-clause-stored : goal.returns-clause-stored
returns-clause-stored g c =
    let numbers : length c.args.values.now ≡ length (get_or c.args.self.now.rows c.args.row []) = c.requires.values ∙ sym (c.laws_of_table.ensures.table.shape.leaf_count c.args.row c.requires.row_in) in
    row_stored c.args.self.now c.loop-leaf.self c.args.row c.loop-leaf.leaf c.args.values.now (omega (arith, c.requires.values)) (omega arith) numbers c.loop-leaf.invariant.stored
