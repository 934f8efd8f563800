-- the rows so far are shown
use Rattle.map_any.proofs.Lemmas.{ℕ, ◌<◌, IsFilled, Show, layout_in}
use Rattle.map_any.proofs.any.AnyMap.show_leaf.Given as goal

abbrev pub invariant-loop-row : goal.invariant-loop-row
invariant-loop-row l = record {
  filled : IsFilled (layout_in l.self) l.blob l.initial.owners l.owners;
  shown : (row : ℕ) → row < l.row → Show (layout_in l.self) l.blob row l.leaf l.owners;
}
