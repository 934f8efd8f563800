use Rattle.views.proofs.Lemmas.{◌≤ℤ◌, rules, arith, w128, ints, to_z-of_z, least_of, greatest_of, least_in, greatest_in, kind_seen, hold_seen, leaves_there, fits_within}
use Rattle.views.proofs.view.View.holds_all.Goals as goal

pub hold-hold-requires : goal.hold-hold-requires
hold-hold-requires c = omega (arith, c.requires, leaves_there c.self.invariant.1 c.self.view_is c.self.invariant.0)

pub least-requires : goal.least-requires
least-requires c = let found = hold_seen c.self.invariant.1 c.self.view_is c.self.invariant.0 c.args.leaf c.hold-hold.result c.requires c.hold-hold.ensures in record { some = found.1; narrow = found.2 }

pub greatest-requires-then-least : goal.greatest-requires-then-least
greatest-requires-then-least c = let found = hold_seen c.self.invariant.1 c.self.view_is c.self.invariant.0 c.args.leaf c.hold-hold.result c.requires c.hold-hold.ensures in record { some = found.1; narrow = found.2 }

pub returns-then-least : goal.returns-then-least
returns-then-least c = λ both value is.
    let kind = c.leaf_type-kind.result in
    let hold = c.hold-hold.result in
    let kind_is = kind_seen c.self.invariant.1 c.self.view_is c.args.leaf kind c.leaf_type-kind.ensures in
    let hold_is = (hold_seen c.self.invariant.1 c.self.view_is c.self.invariant.0 c.args.leaf hold c.requires c.hold-hold.ensures).0 in
    let low : least_in hold.signed hold.width ≤ℤ least_of kind =
    omega (arith, ints, c.if-least.true, to_z-of_z w128 c.least.result (search rules), to_z-of_z w128 c.least-2.result (search rules), c.least.ensures, c.least-2.ensures) in
    let high : greatest_of kind ≤ℤ greatest_in hold.signed hold.width =
    omega (arith, ints, both, to_z-of_z w128 c.greatest.result (search rules), to_z-of_z w128 c.greatest-then-least.result (search rules), c.greatest.ensures, c.greatest-then-least.ensures) in
    grind (arith, fits_within)
