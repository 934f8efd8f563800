use Rattle.piece_bits.proofs.Imports.{◌*◌, ◌+◌, ArePut}
use Rattle.piece_bits.proofs.put.put_eights.Given as goal

abbrev pub invariant-loop-eight : goal.invariant-loop-eight
invariant-loop-eight l = ArePut l.short l.stretch l.values l.at (8 * l.eight) l.fn.blob l.blob

abbrev pub invariant-loop-j : goal.invariant-loop-j
invariant-loop-j l = ArePut l.short l.stretch l.values l.at (8 * l.eight + l.j) l.fn.blob l.blob
