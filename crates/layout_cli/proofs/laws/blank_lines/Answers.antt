use Rattle.layout_cli.proofs.Imports.{passes_blanks}
use Rattle.layout_cli.proofs.laws.blank_lines.Goals as goal

pub returns : goal.returns
returns c = passes_blanks
