use Rattle.piece_bits.proofs.Imports.{◌≡◌, ℕ, ◌+◌, ◌/◌, ◌%◌, ◌^◌, bit_and, ap, ◌∙◌, arith, rules, w128, to_z-of_z, and_mask, number, decoded, bit_of, byte_and_bit, field_read}
use Rattle.piece_bits.proofs.field.field_at.Goals as goal
use Rattle.piece_bits.proofs.field.field_at.Goals.{After-window-word}

bits : (c : goal.After-window-word) → bit_and (c.window-word.result / 2 ^ (c.args.at % 8)) c.args.field.now.ones ≡ number (λ k. bit_of c.args.blob.now (c.args.at + k)) c.args.field.now.width
bits c =
    let field = c.args.field.now in
    let at = c.args.at in
    let word = c.window-word.result in
    ap (λ (n : ℕ). bit_and (word / 2 ^ (at % 8)) n) c.requires.form.ones ∙ and_mask (word / 2 ^ (at % 8)) field.width
    ∙ field_read c.args.blob.now at (at / 8) (at % 8) field.width word (byte_and_bit at) (omega (arith, c.requires.form.narrow)) c.window-word.ensures

pub returns : goal.returns
returns c =
    let field = c.args.field.now in
    to_z-of_z w128 c.moved_back.result (search rules) ∙ c.moved_back.ensures
    ∙ ap (λ (n : ℕ). decoded field.signed field.width n) (bits (goal.at.returns c).After-window-word)
