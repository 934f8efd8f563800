use Rattle.c_lines.proofs.Imports.{◌≡◌, ◌++◌, drop, take}
use Rattle.c_lines.proofs.about.put_numbers.Given as goal

abbrev pub invariant-loop-at : goal.invariant-loop-at
invariant-loop-at l = l.buffer ≡ take l.at l.extents ++ drop l.at l.initial.buffer
