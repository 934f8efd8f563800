use Rattle.c_lines.proofs.Imports.{◌≡◌, ◌∙◌, arith, digits_text, decimal-digits_text}
use Rattle.c_lines.proofs.messages.digits.Goals as goal

pub returns : goal.returns
returns c =
    let text : c.format.result.now ≡ digits_text c.args.leaf = c.format.ensures.text ∙ decimal-digits_text _ (omega arith) in
    rw (c.new-text.ensures, text) at c.in_ok-push_str.ensures.ok
