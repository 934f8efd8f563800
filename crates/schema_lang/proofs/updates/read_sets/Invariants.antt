-- what is read on gives the whole list
use Rattle.schema_lang.proofs.Imports.{◌≡◌, map, length, assignment_of, read, assignment, later, listed}
use Rattle.schema_lang.proofs.updates.read_sets.Given as goal

abbrev pub invariant-loop-alloc : goal.invariant-loop-alloc
invariant-loop-alloc l = read (later assignment (map assignment_of l.sets)) l.tokens ≡ read (listed assignment) l.fn.tokens

abbrev pub decreases-loop-alloc : goal.decreases-loop-alloc
decreases-loop-alloc l = length l.tokens
