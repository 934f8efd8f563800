use Rattle.layout_cli.proofs.Imports.{◌≡◌, ◌∙◌, arith, rules, tests, digits_text, decimal-digits_text}
use Rattle.layout_cli.proofs.number.is_number_word.Goals as goal

pub returns-then-n-le-MAX_ROWS : goal.returns-then-n-le-MAX_ROWS
returns-then-n-le-MAX_ROWS c =
    let digits : c.format.result.now ≡ digits_text c.args.n = c.format.ensures.text ∙ decimal-digits_text c.args.n (omega arith) in
    search (rules, tests, digits)
