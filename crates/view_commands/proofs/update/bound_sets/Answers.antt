use Rattle.view_commands.proofs.Imports.{rules, ◌≡◌, List, Err, map, get_or, drop, take, suc, subst, length, All-push, Assignment, assignment_of, setting_of, map-append, bound_sets, GivesUp, common_steps, arith}
use Rattle.view_commands.proofs.Sets.{map_at, map_more, sets_push, sets_stop}
use Rattle.view_commands.proofs.update.bound_sets.Goals as goal

pub returns-in_err-set-clause-sets : goal.returns-in_err-set-clause-sets
returns-in_err-set-clause-sets c =
    let is : c.from_residual.result ≡ Err c.in_err-set.field-0.0 = search rules in
    let sets = c.args.sets.now in
    let place = c.loop-set.set-index in
    let one = c.set-item.result in
    let gives = rw c.set-item.is at c.in_err-set.ensures.set in
    rw is (subst (λ (xs : List Assignment). GivesUp (bound_sets c.args.view.now.fields (length c.args.view.now.extents) xs) c.in_err-set.field-0.0)
    (map_at assignment_of sets place one c.loop-set-test.true)
    (sets_stop c.args.view.now.fields (length c.args.view.now.extents) (map assignment_of (take place sets)) (map setting_of c.loop-set.bound.items) (assignment_of (get_or sets place one)) (map assignment_of (drop (suc place) sets)) c.in_err-set.field-0.0 c.loop-set.invariant.sets gives))

pub loop-set-preserved : goal.loop-set-preserved
loop-set-preserved c = grind (arith, common_steps, sets_push, map_more, map-append, All-push)
