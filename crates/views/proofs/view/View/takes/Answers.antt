use Rattle.views.proofs.Lemmas.{ℤ, ◌≡◌, true, subst, rules, to_z, of_z, w128, to_z-of_z, hold_at, Fits, kind_at, leaf_type_of, table_holds, arith, some_seen, shown_there, leaves_there, fit_answer, fit_settled, fit_declared}
use Rattle.views.proofs.view.View.takes.Goals as goal
use Rattle.views.proofs.view.View.takes.Goals.{After-takes}

pub takes-requires : goal.takes-requires
takes-requires c = omega (arith, c.requires, leaves_there c.self.invariant.1 c.self.view_is c.self.invariant.0)

fit : (c : After-takes) → c.takes.result ≡ true → Fits (leaf_type_of c.args.self.now c.args.leaf) (hold_at (table_holds c.args.self.now) c.args.leaf) c.args.value
fit c sure =
    subst (λ (v : ℤ). Fits (leaf_type_of c.args.self.now c.args.leaf) (hold_at (table_holds c.args.self.now) c.args.leaf) v) (to_z-of_z w128 c.args.value (search rules))
    (shown_there c.self.invariant.1 c.self.view_is c.self.invariant.0 (λ l n ks hs. Fits (kind_at ks c.args.leaf) (hold_at hs c.args.leaf) (to_z w128 (of_z w128 c.args.value)))
    (record { declared = c.takes.ensures.declared sure; held = c.takes.ensures.held sure }))

pub returns : goal.returns
returns c =
    let some = some_seen c.self.invariant.1 c.self.view_is c.args.leaf c.requires in
    let fits = fit (goal.at.returns c).After-takes in
    record {
      taken = λ sure. fit_answer c.args.self.now c.args.leaf c.args.value some (fits sure);
      settled = λ sure. fit_settled c.args.self.now c.args.leaf c.args.value some (fits sure);
      kept = λ sure. fit_declared c.args.self.now c.args.leaf c.args.value some (fits sure);
    }
