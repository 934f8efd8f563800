use Rattle.advisor.proofs.Lemmas.{List, map, ap, ◌∙◌, arith, Candidate, Trial, none_failed, common_steps, trials_now, marks_right}
use Rattle.advisor.proofs.suits.mark_suiting.Goals as goal

pub mark-requires-clause-inside : goal.mark-requires-clause-inside
mark-requires-clause-inside g c = grind (arith, common_steps, trials_now)

pub returns-clause-marks : goal.returns-clause-marks
returns-clause-marks g c =
    let v = c.args.view.now in
    c.mark.ensures
    ∙ ap (λ (ts : List Trial). map (λ (candidate : Candidate). none_failed candidate.holds ts) c.args.pool.now) c.try_rows.ensures.tried
    ∙ marks_right v c.args.trials.now c.requires.trials c.requires.fresh c.args.pool.now c.requires.stored c.requires.all
