-- the assignments are those of the texts
use Rattle.line_writer.proofs.Imports.{map-map, assignment_of, assignment_tokens}
use Rattle.line_writer.proofs.parts.write_sets.Goals as goal

pub returns : goal.returns
returns c = rw (map-map assignment_tokens assignment_of c.args.sets.now) c.write_parts.ensures
