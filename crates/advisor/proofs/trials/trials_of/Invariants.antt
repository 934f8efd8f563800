use Rattle.advisor.proofs.Imports.{All, take, length, schema_fields, IsTrial, IsFresh, HasTrials}
use Rattle.advisor.proofs.trials.trials_of.Given as goal

abbrev pub invariant-loop-at : goal.invariant-loop-at
invariant-loop-at l = record {
  trials : All (IsTrial (schema_fields l.schema)) l.trials.items;
  fresh : All IsFresh l.trials.items;
  all : All (λ candidate. HasTrials l.trials.items candidate.holds (length candidate.holds)) (take l.at l.pool);
}
