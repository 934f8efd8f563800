use Rattle.views.proofs.Lemmas.{◌≡◌, ◌∙◌, sym, ap, arith, rules, SFits, w128, to_z-of_z, Strict, Table, kind_seen, hold_seen, leaves_there}
use Rattle.views.proofs.view.View.tested.Goals as goal

pub hold-requires : goal.hold-requires
hold-requires c = omega (arith, c.requires, leaves_there c.self.invariant.1 c.self.view_is c.self.invariant.0)

pub answer-requires : goal.answer-requires
answer-requires c = let found = hold_seen c.self.invariant.1 c.self.view_is c.self.invariant.0 c.args.leaf c.hold.result c.requires c.hold.ensures in record { some = found.1; narrow = found.2 }

pub returns-in-Strict : goal.returns-in-Strict
returns-in-Strict c =
    let fits : SFits w128 c.args.value = search rules in
    let mode_is : c.args.self.now.mode ≡ Strict = sym (ap (λ (s : Table). s.mode) c.self.view_is) ∙ c.in-Strict.is in
    let kind_is = kind_seen c.self.invariant.1 c.self.view_is c.args.leaf c.leaf_type.result c.leaf_type.ensures in
    let hold_is = (hold_seen c.self.invariant.1 c.self.view_is c.self.invariant.0 c.args.leaf c.hold.result c.requires c.hold.ensures).0 in
    grind (arith, to_z-of_z)
