use Rattle.piece_bits.proofs.Imports.{ArePut}
use Rattle.piece_bits.proofs.put.put_stretch.Given as goal

abbrev pub invariant-loop-k : goal.invariant-loop-k
invariant-loop-k l = ArePut l.short l.stretch l.values l.at l.k l.fn.blob l.blob
