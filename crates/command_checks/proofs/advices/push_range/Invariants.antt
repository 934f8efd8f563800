use Rattle.command_checks.proofs.Imports.{◌≡◌, ◌++◌, ◌-◌, range_with_len}
use Rattle.command_checks.proofs.advices.push_range.Given as goal

abbrev pub invariant-loop-number : goal.invariant-loop-number
invariant-loop-number l = l.numbers ≡ l.fn.numbers ++ range_with_len l.fn.first (l.number - l.fn.first)
