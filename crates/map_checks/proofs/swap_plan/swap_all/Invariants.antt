-- the rules so far
use Rattle.map_checks.proofs.Imports.{◌≡◌, length, slice_index_or, EachWith, IsSwapped}
use Rattle.map_checks.proofs.swap_plan.swap_all.Given as goal

abbrev pub invariant-loop-rule : goal.invariant-loop-rule
invariant-loop-rule l = (length l.swapped ≡ l.rule-index) × EachWith (λ cell rule. IsSwapped (slice_index_or l.rules cell rule) rule) l.swapped
