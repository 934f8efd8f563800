-- the mappings are those of the expressions
use Rattle.line_writer.proofs.Imports.{map-map, term_of, map_tokens}
use Rattle.line_writer.proofs.later.write_maps.Goals as goal

pub returns : goal.returns
returns c = rw (map-map map_tokens term_of c.args.maps.now) c.write_parts.ensures
