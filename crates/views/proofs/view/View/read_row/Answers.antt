use Rattle.views.proofs.Lemmas.{rules, arith, ◌<◌, FitsSigned, length, w128, to_z-of_z, leaf_read}
use Rattle.views.proofs.view.View.read_row.Goals as goal

pub loop-leaf-preserved : goal.loop-leaf-preserved
loop-leaf-preserved g c =
    let value = c.get.result in
    let fits : FitsSigned w128 value = search rules in
    let small : c.loop-leaf.leaf < length c.loop-leaf.values = omega arith in
    rw (to_z-of_z w128 value fits) (record {
      read = leaf_read c.args.self.now c.loop-leaf.self c.get.new.self c.args.row c.loop-leaf.leaf c.loop-leaf.values value small c.get.ensures.value c.get.ensures.same c.loop-leaf.invariant.read;
      steps = omega (arith, c.get.ensures.step, c.loop-leaf.invariant.steps);
    })
