use Rattle.layout_cli.proofs.Imports.{◌≡◌, ◌∙◌, arith, rules, digits_text, decimal-digits_text}
use Rattle.layout_cli.proofs.number.push_number.Goals as goal

pub returns : goal.returns
returns c =
    let digits : c.format.result.now ≡ digits_text c.args.number = c.format.ensures.text ∙ decimal-digits_text c.args.number (omega arith) in
    search (rules, digits)
