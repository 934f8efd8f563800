use Rattle.advisor.proofs.Imports.{◌<◌, Bool, false, length, get_or, set, ap, ◌∙◌, arith, get_or_default, map_over_more, Truth, Trial, tried_leaf}
use Rattle.advisor.proofs.trials.try_leaf.Goals as goal

-- what an index gives behind the end
none : Trial
none = record { leaf = 0; kind = Truth; hold = record { signed = false; width = 0 }; stays = false }

pub loop-trial-preserved : goal.loop-trial-preserved
unfolding none
loop-trial-preserved c =
    let trials = c.loop-trial.trials in
    let at = c.loop-trial.trial-index in
    let it = get_or trials at none in
    let inside : at < length trials = omega arith in
    ap (λ (b : Bool). set trials at (record it { stays = b })) c.still_stays-trial.ensures
    ∙ map_over_more (tried_leaf c.args.mode c.args.leaf c.args.lows.now) c.args.trials.now trials at it (omega arith) c.loop-trial.invariant (get_or_default trials at none it inside)
