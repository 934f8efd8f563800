use Rattle.layout_copy.proofs.Lemmas.{rules, arith, ◌≡◌, ◌<◌, ◌∙◌, ⊎_elim, List, length, Some, sym, ap, slice_get, cases_lt, length-map, Leaf, leaves, kinds_of, Fields, Hold, length-leaf_cells, leaf_types_of, table_holds, common_steps, own_read, read_own}
use Rattle.layout_copy.proofs.ways.has_own_holds.Goals as goal
use Rattle.layout_copy.proofs.ways.has_own_holds.Goals.{After-of}

pub hold-requires : goal.hold-requires
hold-requires c = grind (arith, common_steps, leaves, length-leaf_cells, length-map)

-- what is read at a leaf, as the lists of the view have it
kind_is : (c : After-of) → slice_get (leaf_types_of c.args.view.now) c.loop-leaf.leaf ≡ Some c.leaf_type.result
kind_is c = sym (ap (λ (f : Fields). slice_get (kinds_of f) c.loop-leaf.leaf) c.schema-schema.ensures.value) ∙ c.leaf_type.ensures

hold_is : (c : After-of) → slice_get (table_holds c.args.view.now) c.loop-leaf.leaf ≡ Some c.hold.result
hold_is c = sym (ap (λ (hs : List Hold). slice_get hs c.loop-leaf.leaf) c.map-map.ensures.holds) ∙ c.hold.ensures

pub returns-then-ne : goal.returns-then-ne
returns-then-ne c =
    let here = (goal.at.returns-then-ne c).After-of in
    let view = c.args.view.now in
    let leaf = c.loop-leaf.leaf in
    let count = ap (λ (f : Fields). length (leaves f)) c.schema-schema.ensures.value in
    let inside : leaf < length (leaf_types_of view) = omega (arith, count, length-map (leaves view.fields) (λ (one : Leaf). one.kind)) in (
      λ is. absurd (cc is),
      λ own.
          let both = read_own (leaf_types_of view) (table_holds view) leaf c.leaf_type.result c.hold.result c.of.result (kind_is here) (hold_is here) c.of.ensures (own leaf inside) in
          search rules,
    )

pub loop-leaf-preserved : goal.loop-leaf-preserved
loop-leaf-preserved c =
    let here = (goal.at.loop-leaf-preserved c).After-of in
    let view = c.args.view.now in
    let signed : c.hold.result.signed ≡ c.of.result.signed = search rules in
    let width : c.hold.result.width ≡ c.of.result.width = search rules in
    let own = own_read (leaf_types_of view) (table_holds view) c.loop-leaf.leaf c.leaf_type.result c.hold.result c.of.result (kind_is here) (hold_is here) c.of.ensures signed width in
    grind (arith, ⊎_elim, cases_lt)
