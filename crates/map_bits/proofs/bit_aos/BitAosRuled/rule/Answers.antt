use Rattle.map_bits.proofs.Lemmas.{ℕ, ◌+◌, ◌*◌, ◌<◌, refl, ap, ◌∙◌, arith, one_lane, widths_in, taken_is, located_is}
use Rattle.map_bits.proofs.bit_aos.BitAosRuled.rule.Goals as goal

pub returns-clause-places : goal.returns-clause-places
returns-clause-places c = λ slot inside.
    let m = c.args.self.now in
    let some : 0 < m.slots = omega arith in
    let taken = taken_is m.cells.items m.holds.items c.args.cell c.index.result.now m.held c.requires c.index.ensures in
    located_is m.slots (widths_in m.holds.items) m.stride slot c.args.cell _ taken (m.stored some).ends m.bound inside refl
    (one_lane c.offset.result slot m.stride 0 ∙ ap (λ (n : ℕ). n + slot * m.stride) (c.offset.ensures.place some))

pub returns-clause-bound : goal.returns-clause-bound
returns-clause-bound c =
    let m = c.args.self.now in
    omega (arith, c.offset.ensures.low, (taken_is m.cells.items m.holds.items c.args.cell c.index.result.now m.held c.requires c.index.ensures).low)
