use Rattle.layout_copy.proofs.Lemmas.{ℕ, List, arith, rows_after, Table, leaf_sizes, cut_at, round_counted, piece_moved, steps_of_round}
use Rattle.layout_copy.proofs.runs.copy_rounds.Goals as goal

pub loop-slot-preserved : goal.loop-slot-preserved
loop-slot-preserved g c =
    let old : Table = c.args.target.now in
    let now : Table = c.loop-slot.target in
    let slot : ℕ = c.loop-slot.slot in
    let count : ℕ = c.round_count-count.result in
    let from = c.args.from in
    let to = c.args.to in
    let same = c.loop-slot.invariant.same in
    let whole = c.loop-slot.invariant.whole c.loop-slot-test.true in
    let sizes : List ℕ = leaf_sizes old.fields in
    let are = steps_of_round c.args.source.now old from to sizes slot count c.requires.alike c.requires.arrays c.requires.from c.requires.to in
    let counted = round_counted from.slots from.lanes to.lanes slot count (cut_at from.lanes to.lanes slot whole) c.round_count-count.ensures.inside sizes in
    grind (arith, rows_after, piece_moved)
