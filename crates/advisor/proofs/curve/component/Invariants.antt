use Rattle.advisor.proofs.Imports.{◌≡◌, ◌-◌, gathered}
use Rattle.advisor.proofs.curve.component.Given as goal

abbrev pub invariant-loop-digit : goal.invariant-loop-digit
invariant-loop-digit l = l.component ≡ gathered l.rank (l.rank - 1 - l.d) l.slot l.digit
