use Rattle.schema_lang.proofs.LineLaws.{one_line}
use Rattle.schema_lang.proofs.line.one_line_law.Goals as goal

pub returns : goal.returns
returns c = one_line
