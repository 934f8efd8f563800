use Rattle.view_commands.proofs.Imports.{rules, FitsSigned, w128, to_z-of_z, common_steps, arith}
use Rattle.view_commands.proofs.Arms.{no_column, reduce_done, reduce_empty}
use Rattle.view_commands.proofs.Changing.{stopped}
use Rattle.view_commands.proofs.reduce.reduction.Goals as goal

pub returns-in_err-leaf : goal.returns-in_err-leaf
returns-in_err-leaf g c = grind (arith, common_steps, stopped, no_column)

pub returns-in-Some : goal.returns-in-Some
returns-in-Some g c =
    let fits : FitsSigned w128 c.in-Some.number = search rules in
    rw (to_z-of_z w128 c.in-Some.number fits) (reduce_done c.args.view.now c.reduce_leaf.new.view c.args.kind c.args.path.now c.in_ok-leaf.leaf c.in-Some.number c.in_ok-leaf.ensures.leaf (rw (c.in-Some.is, c.form_of.ensures) at c.reduce_leaf.ensures.value) c.reduce_leaf.ensures.read)

pub returns-in-None : goal.returns-in-None
returns-in-None g c = reduce_empty c.args.view.now c.reduce_leaf.new.view c.args.kind c.args.path.now c.in_ok-leaf.leaf _ c.in_ok-leaf.ensures.leaf (rw (c.in-None.is, c.form_of.ensures) at c.reduce_leaf.ensures.value) c.reduce_leaf.ensures.read
