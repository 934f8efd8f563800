use Rattle.command_checks.proofs.Imports.{◌≡◌, map, take, weighted, weighted_at}
use Rattle.command_checks.proofs.terms.terms_at.Given as goal

abbrev pub invariant-loop-place : goal.invariant-loop-place
invariant-loop-place l = map weighted l.terms.items ≡ weighted_at (take l.place l.texts) (take l.place l.leaves)
