use Rattle.views.proofs.Lemmas.{◌≡◌, ◌+◌, ◌-◌, ◌<◌, ◌≤◌, length, map, get_or, ◌∙◌, ⊎_elim, arith, cases_lt, common_steps, get_or_default, length-map, kinds_of, schema_fields, leaf_cells, kind_at, [], stretch_blob, has_room, are_put, column_then}
use Rattle.views.proofs.runs.put_rows.Goals as goal
use Rattle.views.proofs.runs.put_rows.Goals.{After-index_mut}

pub overflow_add-first : goal.overflow_add-first
overflow_add-first c =
    ⊎_elim
    (λ (some : 0 < c.loop-done.done). grind arith)
    (λ (none : c.loop-done.done ≤ 0). grind arith)
    (cases_lt 0 c.loop-done.done)

pub stretch-requires-clause-starts : goal.stretch-requires-clause-starts
stretch-requires-clause-starts c = λ lead k below.
    (c.short.ensures.form lead).starts (c.args.first + c.loop-done.done + k) (omega (arith, below, c.requires.rows_in))

pub index_mut-requires : goal.index_mut-requires
index_mut-requires c =
    let low : c.short.result.now.short.blob < length c.loop-done.blobs.items =
    stretch_blob c.args.mapping.now.holds c.laws_of.ensures.lawful c.laws_of.ensures.paired c.requires.leaf_in (c.short.ensures.form c.in-Some.ensures.leads) c.in-Some.ensures (omega (arith, c.requires.rows_in)) c.loop-done.blobs.items c.loop-done.invariant.laid.sized in
    grind (arith, common_steps, low)

-- what stood in the blob
blob : (c : After-index_mut) → c.index_mut.result.now ≡ get_or c.loop-done.blobs.items c.short.result.now.short.blob []
blob c =
    c.index_mut.ensures.value ∙ get_or_default c.loop-done.blobs.items c.short.result.now.short.blob _ []
    (stretch_blob c.args.mapping.now.holds c.laws_of.ensures.lawful c.laws_of.ensures.paired c.requires.leaf_in (c.short.ensures.form c.in-Some.ensures.leads) c.in-Some.ensures (omega (arith, c.requires.rows_in)) c.loop-done.blobs.items c.loop-done.invariant.laid.sized)

pub put_stretch-requires-clause-room : goal.put_stretch-requires-clause-room
put_stretch-requires-clause-room c =
    has_room c.args.mapping.now.holds c.laws_of.ensures.lawful c.laws_of.ensures.paired c.requires.leaf_in (c.short.ensures.form c.in-Some.ensures.leads) c.in-Some.ensures (omega (arith, c.requires.rows_in)) c.loop-done.blobs.items c.loop-done.invariant.laid.sized
    c.index_mut.result.now (blob (goal.at.put_stretch-requires-clause-room c).After-index_mut)

pub loop-done-preserved : goal.loop-done-preserved
loop-done-preserved c =
    let done = c.loop-done.done in
    let lows = c.args.lows.now in
    let leaf = c.args.leaf in
    let stretch = c.in-Some.stretch in
    let kind = kind_at (map (λ cell. cell.kind) (leaf_cells (kinds_of (schema_fields c.args.mapping.now.schema)))) leaf in
    let long : done + stretch.rows ≤ length lows = omega (arith, c.in-Some.ensures.few) in
    let put =
    are_put c.args.mapping.now.holds c.laws_of.ensures.lawful c.laws_of.ensures.paired c.requires.leaf_in (c.short.ensures.form c.in-Some.ensures.leads) c.in-Some.ensures (omega (arith, c.requires.rows_in)) c.loop-done.blobs.items c.loop-done.invariant.laid.sized c.loop-done.invariant.laid
    kind lows done c.index_mut.result.now (blob (goal.at.loop-done-preserved c).After-index_mut) long c.requires.held stretch.rows c.put_stretch.new.blob (omega arith) c.put_stretch.ensures in
    grind (arith, column_then, length-map)
