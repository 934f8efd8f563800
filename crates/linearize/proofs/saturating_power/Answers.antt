use Rattle.linearize.proofs.Imports.{lit<, arith, pow-le-pow_right}
use Rattle.linearize.proofs.saturating_power.Goals as goal

pub returns-else-exponent-lt64 : goal.returns-else-exponent-lt64
returns-else-exponent-lt64 c = omega (arith, (pow-le-pow_right {n = 2} (lit< tt) c.if-exponent-lt64.false))
