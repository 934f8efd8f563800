use Rattle.views.proofs.Lemmas.{◌≡◌, false, rules, ap, ◌∙◌, term_of, is_counted, idle_seen}
use Rattle.views.proofs.view.View.is_counted.Goals as goal

pub returns-in_default-clause-idle : goal.returns-in_default-clause-idle
returns-in_default-clause-idle c none log =
    let idle : is_counted (term_of c.self.inside.expr) ≡ false = search rules in
    idle_seen c.self.invariant.1 c.self.view_is c.self.invariant.0 (ap is_counted c.self.invariant.0.term_is ∙ idle) c.self.invariant.2 log
