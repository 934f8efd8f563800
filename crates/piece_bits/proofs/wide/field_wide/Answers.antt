use Rattle.piece_bits.proofs.Lemmas.{ℕ, ◌/◌, ◌%◌, ap, ◌∙◌, arith, rules, w128, to_z-of_z, decoded, byte_and_bit, low_field}
use Rattle.piece_bits.proofs.wide.field_wide.Goals as goal

pub returns : goal.returns
returns c =
    let field = c.args.field.now in
    let at = c.args.at in
    to_z-of_z w128 c.moved_back.result (search rules) ∙ c.moved_back.ensures
    ∙ ap (λ (n : ℕ). decoded field.signed field.width n)
    (low_field c.args.blob.now at (at / 8) (at % 8) field.width field.ones c.whole.result (byte_and_bit at) (omega (arith, c.requires.narrow)) c.requires.form.ones
    c.whole.ensures)
