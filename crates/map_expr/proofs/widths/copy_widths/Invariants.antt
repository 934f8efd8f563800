-- the entries so far
use Rattle.record_dim.specs.Std.{◌≡◌, take}
use Rattle.map_expr.proofs.widths.copy_widths.Given as goal

abbrev pub invariant-loop-entry : goal.invariant-loop-entry
invariant-loop-entry l = l.copied ≡ take l.entry-index l.fields
