use Rattle.view_commands.proofs.Imports.{rules, refl, bound_term, all_left, arith}
use Rattle.expr_lang.specs.Prelude.{term_of}
use Rattle.view_commands.proofs.Arms.{goes_in, no_index, no_leaf, no_value}
use Rattle.view_commands.proofs.Changing.{changed_as, stopped}
use Rattle.view_commands.proofs.assign.assigned.Goals as goal

pub returns-in_err-leaf : goal.returns-in_err-leaf
returns-in_err-leaf g c =
    let table = c.args.view.now in
    stopped _ (all_left table) table _ c.in_err-leaf.field-0.0 _ (search rules) c.in_err-leaf.ensures.leaf (no_leaf table c.args.index.now c.args.path.now (term_of c.args.value.now)) (λ fault row is. refl)

pub returns-in_err-value : goal.returns-in_err-value
returns-in_err-value g c =
    let table = c.args.view.now in grind (arith, stopped, no_value)

pub returns-in_err-index : goal.returns-in_err-index
returns-in_err-index g c =
    let table = c.args.view.now in grind (arith, stopped, no_index)

pub returns : goal.returns
returns g c =
    let table = c.args.view.now in
    let whole = goes_in table c.args.index.now c.args.path.now (term_of c.args.value.now) c.in_ok-leaf.leaf (bound_term c.in_ok-value.value) c.in_ok-leaf.ensures.leaf c.in_ok-value.ensures.bound
    (rw c.extents.ensures.value at c.in_ok-index.ensures.inside) in
    changed_as _ _ (all_left table) (all_left table) table c.set_in.new.view c.set_in.result whole (λ row. refl) (rw (c.as_slice.ensures.value, c.in_ok-index.ensures.index) at c.set_in.ensures)
