use Rattle.advisor.proofs.Imports.{◌≡◌, map, take, none_failed}
use Rattle.advisor.proofs.suits.mark.Given as goal

abbrev pub invariant-loop-at : goal.invariant-loop-at
invariant-loop-at l = take l.at l.marks ≡ map (λ candidate. none_failed candidate.holds l.trials) (take l.at l.pool)
