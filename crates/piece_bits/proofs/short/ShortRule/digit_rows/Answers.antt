use Rattle.piece_bits.proofs.Lemmas.{ℕ, ◌≡◌, ◌%◌, ◌^◌, subst, arith, morton_line, twos_divide, shifted}
use Rattle.piece_bits.proofs.short.ShortRule.digit_rows.Goals as goal

pub returns-clause-apart : goal.returns-clause-apart
returns-clause-apart c = λ k inside.
    let columns : ℕ = c.args.self.now.columns.columns in
    let row : ℕ = c.args.row in
    let digits : ℕ = c.min-digits.result in
    let even : row % columns % 2 ^ digits ≡ 0 =
    subst (λ (n : ℕ). n % 2 ^ digits ≡ 0) c.column-column.ensures (twos_divide c.column-column.result digits (omega arith) (omega arith)) in
    morton_line row columns k (omega (arith, inside)) digits even (omega (arith, inside, shifted digits (omega arith)))
