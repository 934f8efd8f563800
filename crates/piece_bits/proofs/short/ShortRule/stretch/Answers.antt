use Rattle.piece_bits.proofs.Lemmas.{ℕ, ◌≢◌, ◌∙◌, sym, ap, subst, arith, bit_and, and_mask, Scattered, HasStart, ShortRule, Spread, AreSteps, steps_stretch, plain_steps, block_steps, blocks_steps, column_steps, digit_steps}
use Rattle.piece_bits.proofs.short.ShortRule.stretch.Goals as goal
use Rattle.piece_bits.proofs.short.ShortRule.stretch.Goals.{in-Plain, in-Blocks+then-row-self-eq0, in-Blocks+else-row-self-eq0, in-Columns+in_ok-apart-in-Columns, in-Morton, in-Scattered, in_default}

pub start-requires : goal.start-requires
start-requires c = λ some.
    subst (λ (n : ℕ). HasStart c.args.self.now n) (omega arith) (c.requires.starts some 0 c.requires.some)

pub returns : goal.returns
returns c =
    let short : ShortRule = c.args.self.now in
    let row : ℕ = c.args.row in
    let alone : short.word ≢ Scattered = grind (arith, in-Scattered, in_default) in
    let Steps : ℕ × Spread × ℕ → Type 0 = λ t. AreSteps short row t.0 t.1 t.2 in
    let steps : Steps c.match-self.apart = elim c.match-self.branch [
      | in-Plain w ↦ subst Steps (sym w.apart-is) (plain_steps short row c.args.most w.in-Plain.is c.requires.some)
      | in-Blocks+then-row-self-eq0 w ↦
          subst Steps (sym w.apart-is)
          (blocks_steps short row c.args.most w.in-Blocks.is
          (omega (arith, ap (λ (n : ℕ). bit_and row n) short.masked ∙ and_mask row short.power, w.if-row-self-eq0.true)) c.requires.some)
      | in-Blocks+else-row-self-eq0 w ↦ subst Steps (sym w.apart-is) (block_steps short row w.block_rows.result w.in-Blocks.is w.block_rows.ensures)
      | in-Columns+in_ok-apart-in-Columns w ↦
          subst Steps (sym w.apart-is)
          (column_steps short row w.in_ok-apart-in-Columns.apart w.line_rows.result w.in-Columns.is w.in_ok-apart-in-Columns.ensures.1 w.line_rows.ensures)
      | in-Morton w ↦
          subst Steps (sym w.apart-is)
          (digit_steps short row w.digit_rows.result w.in-Morton.is w.digit_rows.ensures.some w.digit_rows.ensures.few w.digit_rows.ensures.apart)
    ] in
    steps_stretch short row c.args.most c.match-self.apart.2 _ c.in_ok-start.ensures.some alone c.requires.some c.in_ok-start.ensures.start c.min.ensures steps
