use Rattle.map_bits.proofs.Lemmas.{ℕ, ◌<◌, List, ◌∙◌, arith, widths_in, count, begin_at, begin_fits}
use Rattle.map_bits.proofs.bit_aos.BitAos.offset.Goals as goal

pub returns-clause-low : goal.returns-clause-low
returns-clause-low c =
    let m = c.args.self.now in
    let widths : List ℕ = widths_in m.holds.items in
    let some : 0 < m.slots = omega arith in
    let stored = m.stored some in
    let place = c.index.ensures ∙ begin_at widths m.offsets.items m.stride c.args.cell _ stored (omega (arith, count m.cells.items m.holds.items m.held, c.requires)) in
    omega (arith, place, begin_fits m.slots widths m.stride c.args.cell stored.ends m.bound some)
