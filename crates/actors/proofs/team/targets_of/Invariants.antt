use Rattle.actors.proofs.Imports.{◌≡◌, map, take, Assign}
use Rattle.actors.proofs.team.targets_of.Given as goal

abbrev pub invariant-loop-set : goal.invariant-loop-set
invariant-loop-set l = l.targets.items ≡ take l.set-index (map (λ (set : Assign). set.leaf) l.sets)
