use Rattle.advisor.proofs.Imports.{◌≡◌, ◌++◌, take, drop, map, tried_leaf}
use Rattle.advisor.proofs.trials.try_leaf.Given as goal

abbrev pub invariant-loop-trial : goal.invariant-loop-trial
invariant-loop-trial l = l.trials ≡ map (tried_leaf l.mode l.leaf l.lows) (take l.trial-index l.initial.trials) ++ drop l.trial-index l.initial.trials
