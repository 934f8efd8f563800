use Rattle.row_updates.proofs.Lemmas.{rules, ◌≡◌, ◌∙◌, ◌+◌, ◌-◌, ℕ, count_by, length, sym, ap, subst, arith, bound_term, Term, Table, AreWorth, IsCounted, row_test, tested, run_counted}
use Rattle.row_updates.proofs.count.count_next.Goals as goal

pub returns-then-chain_run-clause-done : goal.returns-then-chain_run-clause-done
returns-then-chain_run-clause-done g c = λ old before idle so_far.
    let view = c.args.view.now in
    let run = c.args.run.now in
    let term = bound_term c.args.filter.now in
    let values = c.chain_run.new.values in
    let long : length values ≡ c.args.end - run.first = search rules in
    let end : run.first + length values ≡ c.args.end = omega (arith, long, c.requires.order) in
    let worthy = subst (λ (t : Term ℕ). AreWorth view run t values) c.chain.ensures.term (c.chain_run.ensures.worth c.if-chain_run.true) in
    let all = run_counted (row_test old term) values run.first before so_far.counted (λ k small.
    sym (ap (λ (t : Table). row_test t term (run.first + k)) so_far.same) ∙ tested view run term values c.requires.safe worthy k small) in
    grind (arith, count_by)

pub returns-clause-stopped : goal.returns-clause-stopped
returns-clause-stopped g c = λ old before idle so_far.
    c.count_between.ensures.stopped old before (subst (λ (t : Table). IsCounted old (bound_term c.args.filter.now) t c.args.run.now.first before) (sym c.chain_run.ensures.same) so_far)
