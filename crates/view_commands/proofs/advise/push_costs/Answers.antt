use Rattle.view_commands.proofs.Imports.{◌∙◌, ◌<◌, length, arith, common_steps}
use Rattle.view_commands.proofs.Advice.{costs_more, costs_all}
use Rattle.view_commands.proofs.advise.push_costs.Goals as goal

pub loop-at-preserved : goal.loop-at-preserved
loop-at-preserved c =
    let inside : c.loop-at.at < length c.args.costs.now = omega arith in
    (rw c.loop-at.invariant at c.in_ok-push_cost.ensures) ∙ costs_more c.args.text.now.items c.args.costs.now c.loop-at.at _ inside

pub returns : goal.returns
returns c = grind (arith, common_steps, costs_all)
