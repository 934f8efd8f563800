use Rattle.piece_bits.proofs.Imports.{HaveRead}
use Rattle.piece_bits.proofs.read.read_stretch.Given as goal

abbrev pub invariant-loop-k : goal.invariant-loop-k
invariant-loop-k l = HaveRead l.short l.stretch l.blob l.at l.k l.fn.values l.values
