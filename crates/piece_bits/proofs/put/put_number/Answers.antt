use Rattle.piece_bits.proofs.Imports.{◌≡◌, ℤ, ℕ, sym, ap, ◌∙◌, subst, ⊎_elim, rules, FitsSigned, w64, bit_at, to_z-of_z, number, digit, Word, TurnedU32, TurnedU64, TurnedI32, TurnedI64, IsWordPut, common_steps, arith}
use Rattle.piece_bits.proofs.put.put_number.Goals as goal

pub returns-in-U64 : goal.returns-in-U64
returns-in-U64 c = grind (arith, common_steps, to_z-of_z, bit_at)

pub returns-in-TurnedU32 : goal.returns-in-TurnedU32
returns-in-TurnedU32 c =
    let fits : FitsSigned w64 c.args.value = search rules in
    let put = c.put_turned-in-TurnedU32.ensures in
    let code = c.low_bits-in-TurnedU32.ensures.bits ∙ ap (λ (v : ℤ). number (digit v) 32) (to_z-of_z w64 c.args.value fits) in
    let Put : Word → Type 0 = λ w. IsWordPut w c.args.field.now c.args.place c.args.value c.args.blob.now c.put_turned-in-TurnedU32.new.self in
    ⊎_elim
    (λ (is : c.args.word ≡ TurnedU32). subst Put (sym is) (record { fits = fits; inside = λ k l. put.inside k l ∙ ap (λ (n : ℕ). bit_at n k) code; before = put.before; after = put.after; len = put.len }))
    (λ (is : c.args.word ≡ TurnedI32). subst Put (sym is) (record { fits = fits; inside = λ k l. put.inside k l ∙ ap (λ (n : ℕ). bit_at n k) code; before = put.before; after = put.after; len = put.len }))
    c.in-TurnedU32.is

pub returns-in-TurnedU64 : goal.returns-in-TurnedU64
returns-in-TurnedU64 c =
    let fits : FitsSigned w64 c.args.value = search rules in
    let put = c.put_turned-in-TurnedU64.ensures in
    let code = c.low_bits-in-TurnedU64.ensures.bits ∙ ap (λ (v : ℤ). number (digit v) 64) (to_z-of_z w64 c.args.value fits) in
    let Put : Word → Type 0 = λ w. IsWordPut w c.args.field.now c.args.place c.args.value c.args.blob.now c.put_turned-in-TurnedU64.new.self in
    ⊎_elim
    (λ (is : c.args.word ≡ TurnedU64). subst Put (sym is) (record { fits = fits; inside = λ k l. put.inside k l ∙ ap (λ (n : ℕ). bit_at n k) code; before = put.before; after = put.after; len = put.len }))
    (λ (is : c.args.word ≡ TurnedI64). subst Put (sym is) (record { fits = fits; inside = λ k l. put.inside k l ∙ ap (λ (n : ℕ). bit_at n k) code; before = put.before; after = put.after; len = put.len }))
    c.in-TurnedU64.is
