use Rattle.views.proofs.Lemmas.{ℤ, pos, get_or, sym, ap, ◌∙◌, arith, rules, without_number, answer_of, fault_here, passed}
use Rattle.views.proofs.view.View.lanes_fit.Goals as goal

pub returns-in-Err-clause-named : goal.returns-in-Err-clause-named
returns-in-Err-clause-named c =
    let value = get_or c.args.values.now c.loop-lane.lane (pos 0) in
    let same = passed value c.from.result (search rules) c.from.ensures in
    c.loop-lane.invariant
    ∙ fault_here (answer_of c.args.self.now) c.args.leaf c.loop-lane.lane c.args.values.now c.in-Err.fault (omega arith)
    (sym (ap (λ (v : ℤ). without_number (answer_of c.args.self.now c.args.leaf v)) same) ∙ sym c.fits.ensures ∙ c.in-Err.is)
