-- the leaves so far are shown
use Rattle.map_any.proofs.Lemmas.{ℕ, ◌<◌, IsFilled, Show, layout_in}
use Rattle.map_any.proofs.any.AnyMap.bit_owners.Given as goal

abbrev pub invariant-loop-leaf : goal.invariant-loop-leaf
invariant-loop-leaf l = record {
  filled : IsFilled (layout_in l.self) l.blob l.initial.owners.items l.owners.items;
  shown : (row leaf : ℕ) → leaf < l.leaf → Show (layout_in l.self) l.blob row leaf l.owners.items;
}
