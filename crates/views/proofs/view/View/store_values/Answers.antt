use Rattle.views.proofs.Lemmas.{◌≡◌, ◌<◌, ℤ, pos, get_or, length, map, SFits, to_z, of_z, w64, ap, ◌∙◌, arith, rules, w128, to_z-of_z, get_or-map, length-map, declared, without_number, Table, answer_of, kept_of, leaf_type_of, nothing_stored, stored_more, lane_taken, passed}
use Rattle.views.proofs.view.View.store_values.Goals as goal

pub loop-lane-init : goal.loop-lane-init
loop-lane-init c = nothing_stored c.args.leaf c.args.row c.args.self.now (map (kept_of c.args.self.now c.args.leaf) c.args.values.now)

-- a lane whose value is taken
pub raw-raw-requires-clause-taken : goal.raw-raw-requires-clause-taken
raw-raw-requires-clause-taken c =
    let value = get_or c.args.values.now c.loop-lane.lane (pos 0) in
    ap (λ (v : ℤ). without_number (answer_of c.loop-lane.self c.args.leaf v)) (passed value c.from.result (search rules) c.from.ensures)
    ∙ ap (λ (t : Table). without_number (answer_of t c.args.leaf value)) c.loop-lane.invariant.stored
    ∙ lane_taken (answer_of c.args.self.now) c.args.leaf 0 c.loop-lane.lane c.args.values.now c.in_ok-lanes_fit.ensures.taken (omega arith)

pub loop-lane-preserved : goal.loop-lane-preserved
loop-lane-preserved c =
    let old = c.args.self.now in
    let leaf = c.args.leaf in
    let lane = c.loop-lane.lane in
    let values = c.args.values.now in
    let value = get_or values lane (pos 0) in
    let raw = c.raw-raw.result in
    let fit : SFits w64 value = search rules in
    let whole : SFits w128 raw = search rules in
    let inside : lane < length values = omega arith in
    let kept : declared (leaf_type_of old leaf) (to_z w128 (of_z w128 raw)) ≡ get_or (map (kept_of old leaf) values) lane (pos 0) =
    grind (arith, to_z-of_z, passed, get_or-map) in
    stored_more leaf c.args.row lane c.row_after.result old c.loop-lane.self c.store.new.self (map (kept_of old leaf) values) (to_z w128 (of_z w128 raw)) c.loop-lane.invariant
    (omega (arith, inside, length-map values (kept_of old leaf))) (omega (arith, inside, c.requires.rows_in)) c.row_after.ensures kept c.store.ensures
