use Rattle.views.proofs.Lemmas.{◌≡◌, ◌∙◌, ◌+◌, ◌*◌, ◌/◌, ◌^◌, ◌<◌, ◌≤◌, ℕ, List, [], map, length, get_or, slice_index, sym, ap, subst, arith, mul-le, get_or_from_slice_get, width_of, kinds_of, schema_fields, leaves, Fields, LeafType, Truth, blocks, term_of, extents_of, term_of_map, layout_by, Hold, size_of, IsInBlock, IsMovedEach, kind_at, Table, leaf_type_of, run_at, AreEven, each_target_in, each_moved, kind_count, row_count, views_alike, leaf_seen, leaves_there, few_slots, run_table, moved_seen, runs_seen, one_seen, block_seen, few_bits, run_there, slot_there, other_is, target_room, source_in, source_room}
use Rattle.views.proofs.view.View.move_even.Given as given
use Rattle.views.proofs.view.View.move_even.Goals as goal
use Rattle.views.proofs.view.View.move_even.Goals.{After-as_slice, After-move_pieces}

pub places_of-requires-clause-leaf_in : goal.places_of-requires-clause-leaf_in
places_of-requires-clause-leaf_in g c = omega (arith, c.requires.leaf_in, leaves_there c.self.invariant.1 c.self.view_is c.self.invariant.0)

module _ (g : given.Over) (c : After-as_slice g) where
  -- what is said of the pieces on both sides
  even : AreEven (term_of c.self.inside.expr) (term_of c.source.inside.expr) c.self.inside.extents c.source.inside.extents (schema_fields c.self.inside.schema) (schema_fields c.source.inside.schema)
      c.args.leaf c.args.slot c.args.n c.args.pieces c.in-Some.to.blob c.in-Some.to.byte c.in-Some.to.step c.in-Some-places_of.from.blob c.in-Some-places_of.from.byte c.in-Some-places_of.from.step
      (c.args.n * (c.width.result / 8))
  even =
      let a = c.self.inside in
      let b = c.source.inside in
      let n : ℕ = c.args.n in
      let slot : ℕ = c.args.slot in
      let leaf : ℕ = c.args.leaf in
      let alike : (schema_fields a.schema ≡ schema_fields b.schema) × (a.extents ≡ b.extents) = views_alike c.self.view_is c.source.view_is c.requires.alike in
      let leaf_in : leaf < length (kinds_of (schema_fields a.schema)) = leaf_seen c.self.invariant.1 c.self.view_is leaf c.requires.leaf_in in
      let other_in : leaf < length (kinds_of (schema_fields b.schema)) = subst (λ (f : Fields). leaf < length (kinds_of f)) alike.0 leaf_in in
      let kind : kind_at (kinds_of (schema_fields a.schema)) leaf ≡ c.leaf_type.result = get_or_from_slice_get (kinds_of (schema_fields a.schema)) leaf c.leaf_type.result Truth c.leaf_type.ensures in
      record {
        more = c.requires.more;
        each = λ k l. record {
          alike = alike;
          arrays = runs_seen c.args.self.now c.args.source.now c.self.view_is c.source.view_is c.requires.arrays;
          leaf_in = leaf_in;
          some = c.requires.some;
          len_is = ap (λ (w : ℕ). n * (w / 8)) c.width.ensures ∙ ap (λ (k : LeafType). n * size_of k) (sym kind);
          one = run_there c.self.invariant.0 leaf (slot + k * n) n c.in-Some.to.blob (c.in-Some.to.byte + k * c.in-Some.to.step) leaf_in c.requires.some
              (block_seen c.args.self.now (slot + k * n) n c.self.view_is (c.requires.block k l))
              (run_at (term_of_map a.map) (layout_by (term_of a.map.expr) a.map.extents (schema_fields a.map.schema)) (extents_of a.map) leaf (slice_index (map (λ (h : Hold). h.width) a.map.holds) leaf) slot n c.in-Some.to.blob c.in-Some.to.byte c.in-Some.to.step c.in-Some.ensures k);
          two = run_there c.source.invariant.0 leaf (slot + k * n) n c.in-Some-places_of.from.blob (c.in-Some-places_of.from.byte + k * c.in-Some-places_of.from.step) other_in c.requires.some
              (block_seen c.args.source.now (slot + k * n) n c.source.view_is (c.requires.other_block k l))
              (run_at (term_of_map b.map) (layout_by (term_of b.map.expr) b.map.extents (schema_fields b.map.schema)) (extents_of b.map) leaf (slice_index (map (λ (h : Hold). h.width) b.map.holds) leaf) slot n c.in-Some-places_of.from.blob c.in-Some-places_of.from.byte c.in-Some-places_of.from.step c.in-Some-places_of.ensures k);
        };
      }

first_block : (table : Table) (slot n pieces : ℕ) → 0 < pieces → ((k : ℕ) → k < pieces → IsInBlock table.mapping table.extents (slot + k * n) n) → IsInBlock table.mapping table.extents slot n
first_block table slot n pieces more block = subst (λ (s : ℕ). IsInBlock table.mapping table.extents s n) (let first : slot + 0 * n ≡ slot = omega arith in first) (block 0 more)

pub places_of-requires-clause-slot_in : goal.places_of-requires-clause-slot_in
places_of-requires-clause-slot_in g c =
    slot_there c.self.invariant.0 _ c.args.slot c.args.n (one_seen c.args.self.now c.args.source.now.mapping c.self.view_is c.requires.arrays)
    (block_seen c.args.self.now c.args.slot c.args.n c.self.view_is (first_block c.args.self.now c.args.slot c.args.n c.args.pieces c.requires.more c.requires.block)) c.requires.some

pub places_of-requires-2-clause-leaf_in : goal.places_of-requires-2-clause-leaf_in
places_of-requires-2-clause-leaf_in g c =
    omega (arith, c.requires.leaf_in, leaves_there c.source.invariant.1 c.source.view_is c.source.invariant.0, ap (λ (f : Fields). length (leaves f)) c.requires.alike.0)

pub places_of-requires-2-clause-slot_in : goal.places_of-requires-2-clause-slot_in
places_of-requires-2-clause-slot_in g c =
    slot_there c.source.invariant.0 _ c.args.slot c.args.n
    (other_is (term_of c.self.inside.expr) (term_of c.source.inside.expr) (runs_seen c.args.self.now c.args.source.now c.self.view_is c.source.view_is c.requires.arrays))
    (block_seen c.args.source.now c.args.slot c.args.n c.source.view_is (first_block c.args.source.now c.args.slot c.args.n c.args.pieces c.requires.more c.requires.other_block)) c.requires.some

pub overflow_mul-bytes : goal.overflow_mul-bytes
overflow_mul-bytes g c =
    let block = first_block c.args.self.now c.args.slot c.args.n c.args.pieces c.requires.more c.requires.block in
    let few : c.args.n ≤ 2 ^ 24 = grind (arith, few_slots, one_seen, block_seen) in
    let width : width_of c.leaf_type.result ≤ 64 = few_bits c.leaf_type.result in
    let small : c.width.result / 8 ≤ 8 = omega (arith, c.width.ensures) in
    let all : c.args.n * (c.width.result / 8) ≤ 2 ^ 24 * 8 = mul-le c.args.n (c.width.result / 8) (2 ^ 24) 8 few small in
    omega arith

pub move_pieces-requires-clause-target : goal.move_pieces-requires-clause-target
move_pieces-requires-clause-target g c = each_target_in (even g (goal.at.move_pieces-requires-clause-target g c).After-as_slice) c.self.invariant.1 c.source.invariant.1

pub move_pieces-requires-clause-room : goal.move_pieces-requires-clause-room
move_pieces-requires-clause-room g c k l = target_room ((even g (goal.at.move_pieces-requires-clause-room g c).After-as_slice).each k l) c.self.invariant.1 c.source.invariant.1

pub move_pieces-requires-clause-source : goal.move_pieces-requires-clause-source
move_pieces-requires-clause-source g c =
    let e = even g (goal.at.move_pieces-requires-clause-source g c).After-as_slice in
    subst (λ (bs : List (List ℕ)). c.in-Some-places_of.from.blob < length bs) (sym c.as_slice.ensures.value) (source_in (e.each 0 e.more) c.self.invariant.1 c.source.invariant.1)

pub move_pieces-requires-clause-there : goal.move_pieces-requires-clause-there
move_pieces-requires-clause-there g c k l =
    subst (λ (bs : List (List ℕ)). c.in-Some-places_of.from.byte + k * c.in-Some-places_of.from.step + c.args.n * (c.width.result / 8) ≤ length (get_or bs c.in-Some-places_of.from.blob []))
    (sym c.as_slice.ensures.value) (source_room ((even g (goal.at.move_pieces-requires-clause-there g c).After-as_slice).each k l) c.self.invariant.1 c.source.invariant.1)

-- they are moved, and what is kept of the blobs and in their raw numbers then
module _ (g : given.Over) (c : After-move_pieces g) where
  abbrev MovedFrom : List (List ℕ) → Type 0
  MovedFrom blobs = IsMovedEach c.in-Some.to.byte c.in-Some.to.step (get_or blobs c.in-Some-places_of.from.blob []) c.in-Some-places_of.from.byte c.in-Some-places_of.from.step
      (c.args.n * (c.width.result / 8)) c.args.pieces (get_or c.self.inside.blobs.items c.in-Some.to.blob []) (get_or c.move_pieces.new.blobs.items c.in-Some.to.blob [])

  moved : MovedFrom c.source.inside.blobs.items
  moved = subst MovedFrom c.as_slice.ensures.value c.move_pieces.ensures.moved

pub invariant_of-self : goal.invariant_of-self
invariant_of-self g c =
    let d = goal.at.invariant_of-self g c in (
      c.self.invariant.0,
      (each_moved (even g d.After-as_slice) c.self.invariant.1 c.source.invariant.1 c.move_pieces.new.blobs.items c.move_pieces.ensures.beside (moved g d.After-move_pieces)).0,
      c.self.invariant.2,
    )

pub returns-clause-moved : goal.returns-clause-moved
returns-clause-moved g c = λ wrote.
    let fields = schema_fields c.self.inside.schema in
    let d = goal.at.returns-clause-moved g c in
    let pieces = even g d.After-as_slice in
    let one = pieces.each 0 pieces.more in
    let after = each_moved pieces c.self.invariant.1 c.source.invariant.1 c.move_pieces.new.blobs.items c.move_pieces.ensures.beside (moved g d.After-move_pieces) in
    moved_seen c.args.self.now c.args.source.now c.args.leaf c.args.slot (c.args.pieces * c.args.n) (length (kinds_of fields)) _ c.self.view_is c.source.view_is (kind_count fields)
    (sym (row_count c.self.invariant.1))
    (run_table c.args.leaf c.args.slot (c.args.pieces * c.args.n) one.alike one.leaf_in c.self.invariant.1 c.source.invariant.1 after.0 after.1)

pub returns-clause-steps : goal.returns-clause-steps
returns-clause-steps g c = λ wrote.
    let e = even g (goal.at.returns-clause-steps g c).After-as_slice in
    let same = ap (λ (m : ℕ). c.args.pieces * blocks m) (e.each 0 e.more).len_is ∙ ap (λ (s : Table). c.args.pieces * blocks (c.args.n * size_of (leaf_type_of s c.args.leaf))) c.self.view_is in
    omega (arith, c.move_pieces.ensures.steps, same)
