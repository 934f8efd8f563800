use Rattle.view_commands.proofs.Imports.{rules, ◌≡◌, pos, bound_term, FitsSigned, w128, to_z-of_z, common_steps, arith}
use Rattle.expr_lang.specs.Prelude.{term_of}
use Rattle.view_commands.proofs.Arms.{count_done, count_refused, no_test}
use Rattle.view_commands.proofs.Changing.{stopped}
use Rattle.view_commands.proofs.reduce.counting.Goals as goal

pub returns-in_err-filter : goal.returns-in_err-filter
returns-in_err-filter g c = grind (arith, common_steps, stopped, no_test)

pub returns-in-Ok : goal.returns-in-Ok
returns-in-Ok g c =
    let fits : FitsSigned w128 c.from.result = search rules in
    let same : c.from.result ≡ pos c.in-Ok.rows = search rules in
    rw (to_z-of_z w128 c.from.result fits, same) (count_done c.args.view.now c.count_where.new.view (term_of c.args.filter.now) (bound_term c.in_ok-filter.filter) c.in-Ok.rows c.in_ok-filter.ensures.bound c.in-Ok.ensures.value c.in-Ok.ensures.same)

pub returns : goal.returns
returns g c =
    rw c.update_fault.ensures (count_refused c.args.view.now c.count_where.new.view (term_of c.args.filter.now) (bound_term c.in_ok-filter.filter) c.in-Err.fault _ c.in_ok-filter.ensures.bound c.in-Err.ensures.value c.in-Err.ensures.so_far)
