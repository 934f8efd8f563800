-- the rest is shorter
use Rattle.record_dim.specs.Std.{length}
use Rattle.line_grammar.proofs.words.+listed.Given as goal

abbrev pub decreases-listed : goal.decreases-listed
decreases-listed g l = length l.values.now
