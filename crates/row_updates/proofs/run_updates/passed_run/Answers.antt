use Rattle.row_updates.proofs.Lemmas.{rules, ◌≡◌, ◌∙◌, ℕ, Some, Ok, Bool, length, map, get_or, pos, sym, ap, subst, arith, bound_term, is_true, Term, setting_of, AreWorth, AreTested, none_pass, tested, none_true, all_true}
use Rattle.row_updates.proofs.run_updates.passed_run.Given as given
use Rattle.row_updates.proofs.run_updates.passed_run.Goals as goal
use Rattle.row_updates.proofs.run_updates.passed_run.Goals.{After-count_passing-passing}

-- a row passes where its number is not 0
rows_tested : (g : given.Over) (c : After-count_passing-passing g)
    → AreTested c.args.view.now (Some (bound_term c.args.filter.now)) c.args.run.now.first c.args.count (λ k. is_true (get_or c.chain_run.new.values k (pos 0)))
rows_tested g c = λ k small.
    let values = c.chain_run.new.values in
    let long : length values ≡ c.args.count = search rules in
    let worthy = subst (λ (t : Term ℕ). AreWorth c.args.view.now c.args.run.now t values) c.chain.ensures.term (c.chain_run.ensures.worth c.if-not-chain_run.false) in
    tested c.args.view.now c.args.run.now (bound_term c.args.filter.now) values c.requires.safe_filter worthy k (omega (arith, small, long))

pub returns-then-passing-eq0-clause-updated : goal.returns-then-passing-eq0-clause-updated
returns-then-passing-eq0-clause-updated g c =
    let filter = Some (bound_term c.args.filter.now) in
    let sets = map setting_of c.args.sets.now in
    let test = rows_tested g (goal.at.returns-then-passing-eq0-clause-updated g c).After-count_passing-passing in
    let none = sym c.count_passing-passing.ensures ∙ c.if-passing-eq0.true in grind (arith, none_pass, none_true)

pub returns-then-passing-count-clause-updated : goal.returns-then-passing-count-clause-updated
returns-then-passing-count-clause-updated g c =
    let test = rows_tested g (goal.at.returns-then-passing-count-clause-updated g c).After-count_passing-passing in
    let long : length c.chain_run.new.values ≡ c.args.count = search rules in
    let all = sym c.count_passing-passing.ensures ∙ c.if-passing-count.true ∙ sym long in
    (rw c.chain_run.ensures.same at c.given_run.ensures.updated) (Some (bound_term c.args.filter.now))
    (λ k small. test k small ∙ ap (λ (b : Bool). Ok b) (all_true c.chain_run.new.values all k (omega (arith, small, long))))

pub returns-clause-updated : goal.returns-clause-updated
returns-clause-updated g c =
    (rw c.chain_run.ensures.same at c.given_run-2.ensures.updated) (Some (bound_term c.args.filter.now))
    (rows_tested g (goal.at.returns-clause-updated g c).After-count_passing-passing)
