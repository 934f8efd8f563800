use Rattle.actors.proofs.Lemmas.{◌≡◌, ◌∙◌, true, map, sym, filter_term, setting_of, job_of, lets_through, common_steps, arith, plan_left, plan_through}
use Rattle.actors.proofs.plan.plan_of.Goals as goal

pub returns-then-not-lets_through : goal.returns-then-not-lets_through
returns-then-not-lets_through c = grind (arith, common_steps, plan_left)

pub returns : goal.returns
returns c =
    let job = job_of c.args.view.now (filter_term c.args.filter) (map setting_of c.args.sets.now) in
    let through : lets_through job c.args.row ≡ true = sym c.lets_through.ensures.through ∙ c.if-not-lets_through.false in
    record {
      asked = plan_through job c.args.row c.lets_through.new.asked c.mark_sets.new.asked through c.lets_through.ensures.asked c.mark_sets.ensures;
      through = sym through;
    }
