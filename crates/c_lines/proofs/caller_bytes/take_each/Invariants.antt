use Rattle.c_lines.proofs.Imports.{length, numbers_in, IsReplaced}
use Rattle.c_lines.proofs.caller_bytes.take_each.Given as goal

abbrev pub invariant-loop-k : goal.invariant-loop-k
invariant-loop-k g l = IsReplaced g.N.Number64.number (numbers_in g.N.Number64.sign l.size (length l.initial.numbers) l.bytes) l.initial.numbers l.numbers l.k
