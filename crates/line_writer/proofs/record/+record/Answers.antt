use Rattle.line_writer.proofs.Imports.{the_lemmas, tree_of, fields_of, common_steps, arith}
use Rattle.line_writer.proofs.Behind.{fields_begun, fields_more}
use Rattle.line_writer.proofs.record.+record.Goals as goal

pub write_fields-loop-later-init : goal.write_fields-loop-later-init
write_fields-loop-later-init t c = grind (arith, common_steps, fields_of, tree_of, the_lemmas, fields_begun)

pub write_fields-loop-later-preserved : goal.write_fields-loop-later-preserved
write_fields-loop-later-preserved t c = grind (arith, common_steps, fields_of, tree_of, the_lemmas, fields_more)
