use Rattle.views.proofs.Lemmas.{ℤ, ◌≡◌, ◌∙◌, sym, ap, subst, arith, rules, SFits, to_z, of_z, w128, to_z-of_z, hold_at, declared, held, Strict, Table, kept_of, leaf_type_of, table_holds, IsSettledIn, some_seen, hold_seen, leaves_there, taken_raw, strict_raw}
use Rattle.views.proofs.view.View.raw.Goals as goal
use Rattle.views.proofs.view.View.raw.Goals.{After-held}

pub hold-requires : goal.hold-requires
hold-requires c = omega (arith, c.requires.leaf_in, leaves_there c.self.invariant.1 c.self.view_is c.self.invariant.0)

-- ---- a strict view

pub returns-in-Strict : goal.returns-in-Strict
returns-in-Strict c =
    let seen = c.args.self.now in
    let leaf = c.args.leaf in
    let some = some_seen c.self.invariant.1 c.self.view_is leaf c.requires.leaf_in in
    let mode_is : seen.mode ≡ Strict = sym (ap (λ (s : Table). s.mode) c.self.view_is) ∙ c.in-Strict.is in
    let same = strict_raw seen leaf c.args.value some c.requires.taken mode_is ∙ sym (to_z-of_z w128 c.args.value (search rules)) in
    let raw = taken_raw seen leaf c.args.value some c.requires.taken in
    record { settled = subst (λ (v : ℤ). IsSettledIn seen leaf v) same raw.1; kept = ap (declared (leaf_type_of seen leaf)) (sym same) ∙ raw.0 }

-- ---- one that keeps low bits

pub held-requires : goal.held-requires
held-requires c = let found = hold_seen c.self.invariant.1 c.self.view_is c.self.invariant.0 c.args.leaf c.hold.result c.requires.leaf_in c.hold.ensures in record { some = found.1; narrow = found.2 }

-- what its image says
said : (c : After-held) → to_z w128 (of_z w128 c.held.result) ≡ held (hold_at (table_holds c.args.self.now) c.args.leaf) (kept_of c.args.self.now c.args.leaf c.args.value)
said c =
    let one : SFits w128 c.held.result = search rules in
    let two : SFits w128 c.kept.result = search rules in
    let fits : SFits w128 c.args.value = search rules in
    let hold_is = (hold_seen c.self.invariant.1 c.self.view_is c.self.invariant.0 c.args.leaf c.hold.result c.requires.leaf_in c.hold.ensures).0 in
    grind (arith, to_z-of_z)

pub returns-in-Wrap : goal.returns-in-Wrap
returns-in-Wrap c =
    let seen = c.args.self.now in
    let same = said (goal.at.returns-in-Wrap c).After-held in
    let raw = taken_raw seen c.args.leaf c.args.value (some_seen c.self.invariant.1 c.self.view_is c.args.leaf c.requires.leaf_in) c.requires.taken in
    record { settled = subst (λ (v : ℤ). IsSettledIn seen c.args.leaf v) (sym same) raw.1; kept = ap (declared (leaf_type_of seen c.args.leaf)) same ∙ raw.0 }
