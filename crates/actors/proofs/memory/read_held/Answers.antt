use Rattle.actors.proofs.Lemmas.{◌≡◌, ◌<◌, ◌∙◌, length, sym, ap, arith, rules, SFits, w128, to_z-of_z, length-set, get_or_from_slice_get, Truth, kinds_of, Fields, entry, table_in, declared, kind_at, owners_of, leaf_types_of, table_holds, leaf_count_of, raw_here, one_held, all_held}
use Rattle.actors.proofs.memory.read_held.Goals as goal

pub loop-leaf-preserved : goal.loop-leaf-preserved
loop-leaf-preserved c =
    let table = c.args.view.now in
    let blobs = c.args.blobs.now in
    let leaf = c.loop-leaf.leaf in
    let raw = c.read_entry-raw.result in
    let raw_fits : SFits w128 raw = search rules in
    let fits : SFits w128 c.declared.result = search rules in
    let raw_is = raw_here table _ _ _ blobs c.args.row leaf c.laws_of_view.ensures.lawful.is_table.rows c.map.ensures.layout c.map.ensures.slots c.map.ensures.holds in
    let there = entry (table_in (owners_of table) (length table.rows) (table_holds table) blobs) c.args.row leaf in
    let kind : kind_at (leaf_types_of table) leaf ≡ c.leaf_type.result =
    ap (λ (f : Fields). kind_at (kinds_of f) leaf) (sym c.schema.ensures.value) ∙ get_or_from_slice_get _ leaf c.leaf_type.result Truth c.leaf_type.ensures in
    let is : c.declared.result ≡ declared (kind_at (leaf_types_of table) leaf) there = grind (arith, to_z-of_z) in
    let small : leaf < length c.loop-leaf.values = omega arith in
    let long : length c.loop-leaf.values ≡ leaf_count_of table = c.loop-leaf.invariant.count ∙ c.requires.values in
    rw (to_z-of_z w128 c.declared.result fits) (record {
      count = length-set c.loop-leaf.values leaf c.declared.result ∙ c.loop-leaf.invariant.count;
      front = one_held table c.laws_of_view.ensures.lawful blobs c.args.row c.requires.row_in c.loop-leaf.values leaf c.declared.result small long is c.loop-leaf.invariant.front;
    })

pub returns-clause-row : goal.returns-clause-row
returns-clause-row c =
    all_held c.args.view.now c.laws_of_view.ensures.lawful c.args.blobs.now c.args.row c.requires.row_in c.loop-leaf.values c.loop-leaf.leaf
    (c.loop-leaf.invariant.count ∙ c.requires.values) (omega arith) c.loop-leaf.invariant.front
