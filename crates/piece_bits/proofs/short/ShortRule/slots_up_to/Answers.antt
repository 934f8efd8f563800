use Rattle.piece_bits.proofs.Lemmas.{ℕ, ◌≡◌, ◌+◌, ◌*◌, ◌^◌, ◌%◌, ap, ◌∙◌, arith, mod-eq_of_lt, pow-lt, slots_before}
use Rattle.piece_bits.proofs.short.ShortRule.slots_up_to.Goals as goal

pub returns : goal.returns
returns c = λ slot inside.
    let short = c.args.self.now in
    let size : 1 * 2 ^ short.power % 2 ^ 64 ≡ 2 ^ short.power = ap (λ (n : ℕ). n % 2 ^ 64) (omega arith) ∙ mod-eq_of_lt (pow-lt short.low) in
    slots_before short.base short.block short.lane short.power short.mask c.in_ok-ahead.ahead c.args.last c.in_ok-room.room c.in_ok-blocks.blocks c.in_ok-slots.slots slot
    (omega (arith, c.if-self-eq0.false)) short.masked
    (c.in_ok-ahead.ensures.1 ∙ ap (λ (n : ℕ). n + short.base) c.in_ok-checked_mul.ensures.1)
    (omega (arith, c.in_ok-room.ensures))
    c.in_ok-blocks.ensures.1 (c.in_ok-slots.ensures.1 ∙ ap (λ (n : ℕ). c.in_ok-blocks.blocks * n) size) inside
