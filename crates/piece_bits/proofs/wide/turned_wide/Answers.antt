use Rattle.piece_bits.proofs.Lemmas.{ℕ, ap, ◌∙◌, rules, w128, to_z-of_z, decoded, high_fits, high_bytes}
use Rattle.piece_bits.proofs.wide.turned_wide.Goals as goal

pub moved_back-requires-clause-small : goal.moved_back-requires-clause-small
moved_back-requires-clause-small c = high_fits c.args.blob.now c.args.first c.args.field.now.width c.turned.result c.requires.turned c.turned.ensures

pub returns : goal.returns
returns c =
    let field = c.args.field.now in
    to_z-of_z w128 c.moved_back.result (search rules) ∙ c.moved_back.ensures
    ∙ ap (λ (n : ℕ). decoded field.signed field.width n)
    (high_bytes c.args.blob.now c.args.first field.width c.turned.result c.requires.turned c.turned.ensures)
