-- the inner mapping of a form is below the form
use Rattle.line_writer.proofs.Imports.{◌+◌, ◌*◌}
use Rattle.line_writer.proofs.mapping.+mapping.Given as goal

abbrev pub decreases-write_map : goal.decreases-write_map
decreases-write_map l = 2 * goal.size-write_map l

abbrev pub decreases-write_inner : goal.decreases-write_inner
decreases-write_inner l = 2 * goal.size-write_inner l + 1
