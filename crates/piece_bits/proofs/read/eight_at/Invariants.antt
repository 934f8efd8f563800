use Rattle.piece_bits.proofs.Imports.{HaveEight}
use Rattle.piece_bits.proofs.read.eight_at.Given as goal

abbrev pub invariant-loop-j : goal.invariant-loop-j
invariant-loop-j l = HaveEight l.word l.field l.blob l.first l.apart l.j l.numbers
