use Rattle.map_bits.proofs.Lemmas.{◌<◌, length, ◌∙◌, arith, widths_in, bit_soa_laws, taken_read}
use Rattle.map_bits.proofs.Arrays.{blob_bytes_is, blob_count_is}
use Rattle.map_bits.proofs.bit_soa.BitSoaMapping.blob_bytes.Goals as goal

pub returns : goal.returns
returns c =
    let m = c.args.self.now in
    let inside : c.args.blob < length m.holds.items = omega (arith, blob_count_is m.slots m.holds.items, c.requires) in
    blob_bytes_is m.slots (widths_in m.holds.items) c.args.blob c.from.result c.padded.result (bit_soa_laws m.slots (widths_in m.holds.items) m.held.low m.held.some) c.requires
    (c.from.ensures ∙ taken_read m.holds.items c.args.blob c.index.result.now inside c.index.ensures)
    c.padded.ensures
