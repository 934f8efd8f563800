use Rattle.line_grammar.specs.FileBytesLaws.{file_name_utf8}
use Rattle.line_grammar.proofs.file_name.FileName.as_str.Goals as goal

pub unreachable-requires : goal.unreachable-requires
unreachable-requires c = c.in-Err.ensures.cases.0 (file_name_utf8 _ c.self.invariant.name)
