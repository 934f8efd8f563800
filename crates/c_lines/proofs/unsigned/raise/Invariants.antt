use Rattle.c_lines.proofs.Imports.{map, pos, U64, IsReplaced, raised}
use Rattle.c_lines.proofs.unsigned.raise.Given as goal

abbrev pub invariant-loop-k : goal.invariant-loop-k
invariant-loop-k l = IsReplaced (λ n. pos n) (map (raised U64) l.lows) l.initial.values l.values l.k
