use Rattle.piece_bits.proofs.Imports.{◌≡◌, ℕ, ◌/◌, ◌%◌, ap, ◌∙◌, arith, bit_at, to_z-of_z, number, digit, number_lt, digit_lt, byte_and_bit, field_put, window_written, common_steps}
use Rattle.blobs.specs.BytesLaws.{IsPut}
use Rattle.piece_bits.proofs.field.put_field_at.Goals as goal
use Rattle.piece_bits.proofs.field.put_field_at.Goals.{After-encode-code, After-put_window}

code : (c : goal.After-encode-code) → c.encode-code.result ≡ number (digit c.args.value) c.args.field.now.width
code c = grind (arith, to_z-of_z)

pub with_bits-word-requires-clause-fits : goal.with_bits-word-requires-clause-fits
with_bits-word-requires-clause-fits c = grind (arith, common_steps, number_lt, digit_lt)

written : (c : goal.After-put_window) → IsPut c.args.blob.now c.put_window.new.self c.args.at c.args.field.now.width c.encode-code.result
written c =
    let at = c.args.at in
    let old = c.args.blob.now in
    let width = c.args.field.now.width in
    let changed = c.with_bits-word.ensures in
    field_put old c.put_window.new.self at (at / 8) (at % 8) width c.encode-code.result c.window.result c.with_bits-word.result
    (byte_and_bit at) (omega (arith, c.requires.form.narrow)) c.window.ensures changed.inside changed.before changed.after
    (window_written old c.put_window.new.self at (at / 8) (at % 8) width c.window.result c.with_bits-word.result (byte_and_bit at) c.requires.within
    c.put_window.ensures.len c.window.ensures changed.after c.put_window.ensures.inside)
    c.put_window.ensures.before c.put_window.ensures.after

pub returns-clause-inside : goal.returns-clause-inside
returns-clause-inside c = λ k l. (written c).inside k l ∙ ap (λ (w : ℕ). bit_at w k) (code (goal.at.returns-clause-inside c).After-encode-code)

pub returns-clause-after : goal.returns-clause-after
returns-clause-after c = (written c).after
