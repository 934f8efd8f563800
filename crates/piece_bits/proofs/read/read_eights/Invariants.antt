use Rattle.piece_bits.proofs.Imports.{◌*◌, ◌+◌, HaveRead}
use Rattle.piece_bits.proofs.read.read_eights.Given as goal

abbrev pub invariant-loop-eight : goal.invariant-loop-eight
invariant-loop-eight l = HaveRead l.short l.stretch l.blob l.at (8 * l.eight) l.fn.values l.values

abbrev pub invariant-loop-j : goal.invariant-loop-j
invariant-loop-j l = HaveRead l.short l.stretch l.blob l.at (8 * l.eight + l.j) l.fn.values l.values
