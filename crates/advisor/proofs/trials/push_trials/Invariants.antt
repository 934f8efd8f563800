use Rattle.advisor.proofs.Lemmas.{schema_fields, ArePushed}
use Rattle.advisor.proofs.trials.push_trials.Given as goal

abbrev pub invariant-loop-leaf : goal.invariant-loop-leaf
invariant-loop-leaf l = ArePushed (schema_fields l.schema) l.initial.trials.items l.holds l.leaf l.trials.items
