-- what is read on gives the whole list
use Rattle.line_phrases.proofs.Imports.{◌≡◌, length, read, later_passes, passes}
use Rattle.line_phrases.proofs.passes.read_passes.Given as goal

abbrev pub invariant-loop-alloc : goal.invariant-loop-alloc
invariant-loop-alloc l = read (later_passes l.passes) l.tokens ≡ read passes l.fn.tokens

abbrev pub decreases-loop-alloc : goal.decreases-loop-alloc
decreases-loop-alloc l = length l.tokens
