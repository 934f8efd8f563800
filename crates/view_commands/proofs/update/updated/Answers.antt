use Rattle.view_commands.proofs.Imports.{rules, refl, map, option_map, assignment_of, front_left, updated_front, common_steps, arith}
use Rattle.expr_lang.specs.Prelude.{term_of}
use Rattle.view_commands.proofs.Arms.{front_goes, no_filter, no_sets, not_once, update_goes}
use Rattle.view_commands.proofs.Changing.{changed_as, stopped}
use Rattle.view_commands.proofs.Sets.{filter_is, once_left}
use Rattle.view_commands.proofs.update.updated.Goals as goal

pub returns-in_err-filter : goal.returns-in_err-filter
returns-in_err-filter g c = grind (arith, common_steps, option_map, stopped, no_filter)

pub returns-in_err-sets : goal.returns-in_err-sets
returns-in_err-sets g c = grind (arith, common_steps, option_map, stopped, no_sets)

pub returns-in_err-each_once : goal.returns-in_err-each_once
returns-in_err-each_once g c =
    let table = c.args.view.now in
    let filter = option_map term_of c.args.filter.now in
    let sets = map assignment_of c.args.sets.now in
    let test = c.in_ok-filter.ensures.filter in
    let settings = c.in_ok-sets.ensures.sets in
    once_left _ (λ row. front_left table row (updated_front table filter sets row)) table _ c.in_err-each_once.field-0.0 _ (search rules) (rw c.as_slice.ensures.value at c.in_err-each_once.ensures.once)
    (λ fault. not_once table filter sets _ _ fault test settings) (λ fault row is. rw (test, settings, is) refl)

pub returns : goal.returns
returns g c =
    let table = c.args.view.now in
    let filter = option_map term_of c.args.filter.now in
    let sets = map assignment_of c.args.sets.now in
    let test = c.in_ok-filter.ensures.filter in
    let settings = c.in_ok-sets.ensures.sets in
    let once = rw c.as_slice.ensures.value at c.in_ok-each_once.ensures.once in
    changed_as _ _ _ _ table c.update_all.new.view c.update_all.result (update_goes table filter sets _ _ test settings once) (λ row. front_goes table filter sets _ _ row test settings once)
    (rw (filter_is _ _ c.as_ref.ensures.value, c.as_slice-2.ensures.value) at c.update_all.ensures)
