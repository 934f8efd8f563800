use Rattle.advisor.proofs.Imports.{◌≡◌, take}
use Rattle.advisor.proofs.candidate.holds_in.Given as goal

abbrev pub invariant-loop-cell : goal.invariant-loop-cell
invariant-loop-cell g l = l.holds ≡ take l.cell (g.M.Mapping.hold_list l.mapping)
