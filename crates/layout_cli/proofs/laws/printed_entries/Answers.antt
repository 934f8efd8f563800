use Rattle.layout_cli.proofs.Imports.{step_text}
use Rattle.layout_cli.proofs.Equals.{text_does}
use Rattle.layout_cli.proofs.laws.printed_entries.Goals as goal

pub returns : goal.returns
returns c = λ version files. c.shown_entries.ensures version files (step_text version files) (text_does version files)
