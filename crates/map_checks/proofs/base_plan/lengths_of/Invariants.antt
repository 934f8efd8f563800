-- the lengths so far
use Rattle.map_checks.proofs.Imports.{take, HasLengths}
use Rattle.map_checks.proofs.base_plan.lengths_of.Given as goal

abbrev pub invariant-loop-blob : goal.invariant-loop-blob
invariant-loop-blob g l = HasLengths (take l.blob (g.M.Mapping.layout l.mapping)) l.lengths
