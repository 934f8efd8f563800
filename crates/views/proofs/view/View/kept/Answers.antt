use Rattle.views.proofs.Lemmas.{◌≡◌, ◌∙◌, sym, ap, arith, rules, SFits, w128, to_z-of_z, Wrap, Table, kind_seen, hold_seen, leaves_there}
use Rattle.views.proofs.view.View.kept.Goals as goal

pub hold-requires : goal.hold-requires
hold-requires c = omega (arith, c.requires, leaves_there c.self.invariant.1 c.self.view_is c.self.invariant.0)

pub kept-requires : goal.kept-requires
kept-requires c = let found = hold_seen c.self.invariant.1 c.self.view_is c.self.invariant.0 c.args.leaf c.hold.result c.requires c.hold.ensures in record { some = found.1; narrow = found.2 }

pub returns-in-Wrap : goal.returns-in-Wrap
returns-in-Wrap c =
    let fits : SFits w128 c.args.value = search rules in
    let whole : SFits w128 c.kept.result = search rules in
    let mode_is : Wrap ≡ c.args.self.now.mode = sym c.in-Wrap.is ∙ ap (λ (s : Table). s.mode) c.self.view_is in
    let kind_is = kind_seen c.self.invariant.1 c.self.view_is c.args.leaf c.leaf_type.result c.leaf_type.ensures in
    let hold_is = (hold_seen c.self.invariant.1 c.self.view_is c.self.invariant.0 c.args.leaf c.hold.result c.requires c.hold.ensures).0 in
    grind (arith, to_z-of_z)
