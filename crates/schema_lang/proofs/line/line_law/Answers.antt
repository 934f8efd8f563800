use Rattle.schema_lang.proofs.line.line_law.Goals as goal
use Rattle.schema_lang.proofs.LineOfLaws as laws

pub returns : goal.returns
returns c = laws.line_law
