use Rattle.piece_bits.proofs.Lemmas.{ℕ, ap, ◌∙◌, rules, w128, to_z-of_z, decoded, low_bytes}
use Rattle.piece_bits.proofs.wide.whole_wide.Goals as goal

pub returns : goal.returns
returns c =
    let field = c.args.field.now in
    to_z-of_z w128 c.moved_back.result (search rules) ∙ c.moved_back.ensures
    ∙ ap (λ (n : ℕ). decoded field.signed field.width n)
    (low_bytes c.args.blob.now c.args.first field.width field.ones c.whole.result c.requires.form.narrow c.requires.form.ones c.whole.ensures)
