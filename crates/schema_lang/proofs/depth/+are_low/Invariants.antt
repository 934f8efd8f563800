-- the rest is shorter
use Rattle.schema_lang.proofs.Imports.{length}
use Rattle.schema_lang.proofs.depth.+are_low.Given as goal

abbrev pub decreases-are_low : goal.decreases-are_low
decreases-are_low l = length l.sets.now
