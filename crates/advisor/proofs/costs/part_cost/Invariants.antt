use Rattle.advisor.proofs.Lemmas.{◌≡◌, ◌≤◌, ◌*◌, ◌^◌, take, part_cost, leaves_in, layout_in}
use Rattle.advisor.proofs.costs.part_cost.Given as goal

abbrev pub invariant-loop-pass : goal.invariant-loop-pass
invariant-loop-pass l = record {
  value : l.cost ≡ part_cost (take l.pass-index l.passes) l.granule (leaves_in l.cells) (layout_in l.map);
  most : l.cost ≤ l.pass-index * 2 ^ 56;
}
