use Rattle.record_dim.proofs.Imports.{fields_of}
use Rattle.record_dim.proofs.Lookup.{IsLeft}
use Rattle.record_dim.proofs.nodes.find_field.Given as goal

abbrev pub invariant-loop-left : goal.invariant-loop-left
invariant-loop-left l = IsLeft (fields_of l.fields) (fields_of l.left) l.name l.before
