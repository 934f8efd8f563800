-- the rest is shorter
use Rattle.record_dim.specs.Std.{length}
use Rattle.line_grammar.proofs.items.+operator_in.Given as goal

abbrev pub decreases-operator_in : goal.decreases-operator_in
decreases-operator_in l = length l.ops.now
