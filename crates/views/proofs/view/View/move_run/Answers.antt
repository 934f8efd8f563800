use Rattle.views.proofs.Lemmas.{◌≡◌, ◌∙◌, ◌+◌, ◌*◌, ◌/◌, ◌<◌, ◌≤◌, ℕ, List, [], length, get_or, sym, ap, subst, arith, mul-le, get_or_from_slice_get, kinds_of, schema_fields, leaves, Fields, LeafType, Truth, blocks, AreMoved, term_of, size_of, kind_at, Table, leaf_type_of, common_steps, kind_count, row_count, views_alike, leaf_seen, leaves_there, IsMove, few_slots, moved_seen, runs_seen, one_seen, block_seen, few_bits, run_there, target_in, target_room, source_in, source_room, run_kept, run_raw, run_table}
use Rattle.views.proofs.view.View.move_run.Given as given
use Rattle.views.proofs.view.View.move_run.Goals as goal
use Rattle.views.proofs.view.View.move_run.Goals.{After-as_slice, After-move_between}

pub place_of-to-requires-clause-leaf_in : goal.place_of-to-requires-clause-leaf_in
place_of-to-requires-clause-leaf_in g c = omega (arith, c.requires.leaf_in, leaves_there c.self.invariant.1 c.self.view_is c.self.invariant.0)

-- what is said of the bytes on both sides
move : (g : given.Over) (c : After-as_slice g) → IsMove (term_of c.self.inside.expr) (term_of c.source.inside.expr) c.self.inside.extents c.source.inside.extents
    (schema_fields c.self.inside.schema) (schema_fields c.source.inside.schema) c.args.leaf c.args.slot c.args.n c.place_of-to.result.blob c.place_of-to.result.byte
    c.place_of-from.result.blob c.place_of-from.result.byte (c.args.n * (c.width.result / 8))
move g c =
    let a = c.self.inside in
    let b = c.source.inside in
    let n : ℕ = c.args.n in
    let alike : (schema_fields a.schema ≡ schema_fields b.schema) × (a.extents ≡ b.extents) = views_alike c.self.view_is c.source.view_is c.requires.alike in
    let leaf_in : c.args.leaf < length (kinds_of (schema_fields a.schema)) = leaf_seen c.self.invariant.1 c.self.view_is c.args.leaf c.requires.leaf_in in
    let other_in : c.args.leaf < length (kinds_of (schema_fields b.schema)) = subst (λ (f : Fields). c.args.leaf < length (kinds_of f)) alike.0 leaf_in in
    let kind : kind_at (kinds_of (schema_fields a.schema)) c.args.leaf ≡ c.leaf_type.result = get_or_from_slice_get (kinds_of (schema_fields a.schema)) c.args.leaf c.leaf_type.result Truth c.leaf_type.ensures in
    let some : 0 < n = omega arith in
    record {
      alike = alike;
      arrays = runs_seen c.args.self.now c.args.source.now c.self.view_is c.source.view_is c.requires.arrays;
      leaf_in = leaf_in;
      some = some;
      len_is = ap (λ (w : ℕ). n * (w / 8)) c.width.ensures ∙ ap (λ (k : LeafType). n * size_of k) (sym kind);
      one = run_there c.self.invariant.0 c.args.leaf c.args.slot n c.place_of-to.result.blob c.place_of-to.result.byte leaf_in some
          (block_seen c.args.self.now c.args.slot n c.self.view_is c.requires.block) c.place_of-to.ensures;
      two = run_there c.source.invariant.0 c.args.leaf c.args.slot n c.place_of-from.result.blob c.place_of-from.result.byte other_in some
          (block_seen c.args.source.now c.args.slot n c.source.view_is c.requires.other_block) c.place_of-from.ensures;
    }

-- they are moved
module _ (g : given.Over) (c : After-move_between g) where
  abbrev MovedFrom : List (List ℕ) → Type 0
  MovedFrom blobs = AreMoved blobs c.self.inside.blobs.items c.move_between.new.blobs.items c.place_of-from.result.blob (8 * c.place_of-from.result.byte)
      c.place_of-to.result.blob (8 * c.place_of-to.result.byte) (8 * (c.args.n * (c.width.result / 8)))

  moved : MovedFrom c.source.inside.blobs.items
  moved = subst MovedFrom c.as_slice.ensures.value c.move_between.ensures.moved

pub place_of-from-requires-clause-leaf_in : goal.place_of-from-requires-clause-leaf_in
place_of-from-requires-clause-leaf_in g c =
    omega (arith, c.requires.leaf_in, leaves_there c.source.invariant.1 c.source.view_is c.source.invariant.0, ap (λ (f : Fields). length (leaves f)) c.requires.alike.0)

pub move_between-requires-clause-target : goal.move_between-requires-clause-target
move_between-requires-clause-target g c = target_in (move g (goal.at.move_between-requires-clause-target g c).After-as_slice) c.self.invariant.1 c.source.invariant.1

pub move_between-requires-clause-room : goal.move_between-requires-clause-room
move_between-requires-clause-room g c = target_room (move g (goal.at.move_between-requires-clause-room g c).After-as_slice) c.self.invariant.1 c.source.invariant.1

pub move_between-requires-clause-source : goal.move_between-requires-clause-source
move_between-requires-clause-source g c =
    subst (λ (bs : List (List ℕ)). c.place_of-from.result.blob < length bs) (sym c.as_slice.ensures.value)
    (source_in (move g (goal.at.move_between-requires-clause-source g c).After-as_slice) c.self.invariant.1 c.source.invariant.1)

pub move_between-requires-clause-there : goal.move_between-requires-clause-there
move_between-requires-clause-there g c =
    subst (λ (bs : List (List ℕ)). c.place_of-from.result.byte + c.args.n * (c.width.result / 8) ≤ length (get_or bs c.place_of-from.result.blob [])) (sym c.as_slice.ensures.value)
    (source_room (move g (goal.at.move_between-requires-clause-there g c).After-as_slice) c.self.invariant.1 c.source.invariant.1)

pub invariant_of-self : goal.invariant_of-self
invariant_of-self g c =
    let d = goal.at.invariant_of-self g c in
    (c.self.invariant.0, run_kept (move g d.After-as_slice) c.self.invariant.1 c.source.invariant.1 (moved g d.After-move_between), c.self.invariant.2)

pub returns-clause-moved : goal.returns-clause-moved
returns-clause-moved g c =
    let fields = schema_fields c.self.inside.schema in
    let d = goal.at.returns-clause-moved g c in
    let both = move g d.After-as_slice in
    let new = moved g d.After-move_between in
    moved_seen c.args.self.now c.args.source.now c.args.leaf c.args.slot c.args.n (length (kinds_of fields)) _ c.self.view_is c.source.view_is (kind_count fields) (sym (row_count c.self.invariant.1))
    (run_table c.args.leaf c.args.slot c.args.n both.alike both.leaf_in c.self.invariant.1 c.source.invariant.1
    (run_kept both c.self.invariant.1 c.source.invariant.1 new) (run_raw both c.self.invariant.1 c.source.invariant.1 new))

pub returns-clause-steps : goal.returns-clause-steps
returns-clause-steps g c =
    let both = move g (goal.at.returns-clause-steps g c).After-as_slice in
    omega (arith, c.move_between.ensures.steps, ap blocks both.len_is ∙ ap (λ (s : Table). blocks (c.args.n * size_of (leaf_type_of s c.args.leaf))) c.self.view_is)

pub overflow_mul-bytes : goal.overflow_mul-bytes
overflow_mul-bytes g c = grind (arith, common_steps, few_slots, one_seen, block_seen, few_bits, mul-le)
