use Rattle.map_bits.proofs.Lemmas.{ℕ, ◌*◌, refl, ap, ◌∙◌, arith, one_lane, widths_in, taken_is}
use Rattle.map_bits.proofs.Arrays.{located_is}
use Rattle.map_bits.proofs.bit_soa.BitSoaRuled.rule.Goals as goal

pub returns-clause-places : goal.returns-clause-places
returns-clause-places c = λ slot inside.
    let m = c.args.self.now in
    let taken = taken_is m.cells.items m.holds.items c.args.cell c.index.result.now m.held c.requires c.index.ensures in
    located_is m.slots (widths_in m.holds.items) slot c.args.cell _ taken m.few inside refl
    (one_lane 0 slot c.from.result 0 ∙ (omega arith) ∙ ap (λ (n : ℕ). slot * n) c.from.ensures)
