use Rattle.advisor.proofs.Lemmas.{take, list_any, heat_counts, no_heat, HasGranules, blob_lengths, holds_cell, IsWarmed, layout_in}
use Rattle.advisor.proofs.touched.touched.Given as goal

abbrev pub invariant-loop-cell : goal.invariant-loop-cell
invariant-loop-cell l = let layout = layout_in l.map in record {
  warmed : IsWarmed (no_heat l.granule (blob_lengths layout)) (heat_counts l.heat) (λ blob at. list_any (λ cell. holds_cell layout l.granule cell blob at) (take l.cell-index l.cells));
  granules : HasGranules layout (heat_counts l.heat);
}
