use Rattle.views.proofs.Lemmas.{refl, sym, ◌∙◌, rules, w128, to_z-of_z, Read, ◌∷◌, [], arith, sign_seen, declared_seen, idle_seen, rows_there, leaves_there}
use Rattle.views.proofs.view.View.far_value.Goals as goal

pub short_read-requires-clause-leaf_in : goal.short_read-requires-clause-leaf_in
short_read-requires-clause-leaf_in c = omega (arith, c.requires.leaf_in, leaves_there c.self.invariant.1 c.self.view_is c.self.invariant.0)

pub short_read-requires-clause-row_in : goal.short_read-requires-clause-row_in
short_read-requires-clause-row_in c = omega (arith, c.requires.row_in, rows_there c.self.invariant.1 c.self.view_is c.self.invariant.0)

pub returns-in-Some : goal.returns-in-Some
returns-in-Some c =
    let read = to_z-of_z w128 c.in-Some.value (search rules) ∙ c.in-Some.ensures.value
    ∙ sign_seen c.self.invariant.1 c.self.view_is c.self.invariant.0 c.as_slice.ensures.value c.args.row c.args.leaf c.requires.row_in c.requires.leaf_in (c.in-Some.ensures.sign refl) in
    record {
      value = read;
      declared = declared_seen c.self.invariant.1 c.self.view_is c.args.row c.args.leaf c.requires.row_in c.requires.leaf_in read;
      same = sym (idle_seen c.self.invariant.1 c.self.view_is c.self.invariant.0 (c.in-Some.ensures.uncounted refl) c.self.invariant.2 (Read c.args.row c.args.leaf ∷ []));
    }
