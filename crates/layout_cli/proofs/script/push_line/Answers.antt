use Rattle.layout_cli.proofs.Imports.{rules, digits_text}
use Rattle.layout_cli.proofs.Texts.{line_put}
use Rattle.layout_cli.proofs.script.push_line.Goals as goal

pub returns : goal.returns
returns c =
    let line = line_put c.args.text.now c.args.front.now (digits_text c.args.n) c.args.back.now in
    search (rules, line)
