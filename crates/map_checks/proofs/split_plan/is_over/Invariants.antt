-- what is left of the limit
use Rattle.map_checks.proofs.Imports.{◌≡◌, ◌+◌, ◌^◌, take, sum}
use Rattle.map_checks.proofs.split_plan.is_over.Given as goal

abbrev pub invariant-loop-bytes : goal.invariant-loop-bytes
invariant-loop-bytes l = l.left + sum (take l.bytes-index l.lengths) ≡ 2 ^ 28
