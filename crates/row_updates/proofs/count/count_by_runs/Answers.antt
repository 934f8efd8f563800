use Rattle.row_updates.proofs.Imports.{rules, ◌≡◌, ◌∙◌, Err, sym, subst, arith, bound_term, count_log, IsIdle}
use Rattle.row_updates.proofs.count.count_by_runs.Goals as goal

pub returns-in_err-passing-clause-stopped : goal.returns-in_err-passing-clause-stopped
returns-in_err-passing-clause-stopped g c =
    let is : c.from_residual.result ≡ Err c.in_err-passing.field-0.0 = search rules in
    rw is (c.in_err-passing.ensures.stopped c.args.view.now c.loop-first.passing c.requires.idle c.loop-first.invariant.counted)

pub loop-first-preserved : goal.loop-first-preserved
loop-first-preserved g c =
    let view = c.args.view.now in
    let before = c.loop-first.invariant in
    let done = c.in_ok-passing.ensures.done view c.loop-first.passing c.requires.idle before.counted in
    let same = done.same ∙ c.requires.idle (count_log (bound_term c.args.filter.now) view.extents view.rows c.min-end.result) in
    record { few = omega arith; all = before.all; idle = subst IsIdle (sym same) c.requires.idle; counted = done }
