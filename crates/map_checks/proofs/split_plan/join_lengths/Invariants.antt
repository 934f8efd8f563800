-- the lengths so far
use Rattle.map_checks.proofs.Imports.{◌≡◌, ◌++◌, take}
use Rattle.map_checks.proofs.split_plan.join_lengths.Given as goal

abbrev pub invariant-loop-bytes : goal.invariant-loop-bytes
invariant-loop-bytes l = l.lengths ≡ take l.bytes-index l.first

abbrev pub invariant-loop-bytes-2 : goal.invariant-loop-bytes-2
invariant-loop-bytes-2 l = l.lengths ≡ l.first ++ take l.bytes-index l.rest
