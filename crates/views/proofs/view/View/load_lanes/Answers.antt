use Rattle.views.proofs.Lemmas.{◌≡◌, List, ℤ, sym, subst, arith, Each1, IsBlock, IsNarrow, same, nothing_loaded, loaded_more, loaded_block}
use Rattle.views.proofs.view.View.load_lanes.Goals as goal

pub loop-lane-init : goal.loop-lane-init
loop-lane-init g c = nothing_loaded c.args.leaf c.args.row c.args.self.now

pub loop-lane-preserved : goal.loop-lane-preserved
loop-lane-preserved g c =
    loaded_more c.args.leaf c.args.row c.loop-lane.lane c.row_after.result c.args.self.now c.loop-lane.self c.narrow_value.new.self c.loop-lane.values c.narrow_value.result
    c.loop-lane.invariant (omega arith) (omega arith) c.row_after.ensures c.narrow_value.ensures.value c.narrow_value.ensures.narrow c.narrow_value.ensures.same

pub returns-clause-lanes : goal.returns-clause-lanes
returns-clause-lanes g c =
    let block : IsBlock c.loop-lane.values =
    loaded_block c.args.leaf c.args.row c.loop-lane.lane c.args.self.now c.loop-lane.self c.loop-lane.values c.loop-lane.invariant (omega arith) (omega arith) in
    subst IsBlock (sym (same c.loop-lane.values block.fit)) block

pub returns-clause-values : goal.returns-clause-values
returns-clause-values g c =
    let block : IsBlock c.loop-lane.values =
    loaded_block c.args.leaf c.args.row c.loop-lane.lane c.args.self.now c.loop-lane.self c.loop-lane.values c.loop-lane.invariant (omega arith) (omega arith) in
    let end : c.loop-lane.lane ≡ c.args.lanes = omega arith in grind (arith, same)

pub returns-clause-narrow : goal.returns-clause-narrow
returns-clause-narrow g c =
    let block : IsBlock c.loop-lane.values =
    loaded_block c.args.leaf c.args.row c.loop-lane.lane c.args.self.now c.loop-lane.self c.loop-lane.values c.loop-lane.invariant (omega arith) (omega arith) in
    subst (λ (values : List ℤ). Each1 IsNarrow values) (sym (same c.loop-lane.values block.fit)) c.loop-lane.invariant.narrow
