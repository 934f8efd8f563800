use Rattle.layout_cli.proofs.Imports.{◌≡◌, ◌∙◌, pos, neg_ℤ, rules, arith, decimal_text}
use Rattle.layout_cli.proofs.Negated.{negated}
use Rattle.layout_cli.proofs.dataset.push_negated.Goals as goal

pub returns : goal.returns
returns c =
    let digits : c.format.result.now ≡ decimal_text (neg_ℤ (pos c.args.number)) = c.format.ensures.text ∙ negated c.args.number c.from.result (omega arith) c.from.ensures in
    search (rules, digits)
