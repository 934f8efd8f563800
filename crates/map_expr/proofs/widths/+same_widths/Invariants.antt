use Rattle.record_dim.specs.Std.{length}
use Rattle.map_expr.proofs.widths.+same_widths.Given as goal

-- a list gets shorter by its first entry
abbrev pub decreases-same_widths : goal.decreases-same_widths
decreases-same_widths l = length l.fields.now
