use Rattle.map_bits.proofs.Lemmas.{widths_in, bit_aos_laws, blob_bytes_is}
use Rattle.map_bits.proofs.bit_aos.BitAosMapping.blob_bytes.Goals as goal

pub returns : goal.returns
returns c =
    let m = c.args.self.now in
    blob_bytes_is m.slots (widths_in m.holds.items) m.offsets.items m.stride c.args._blob c.padded.result (bit_aos_laws m.slots (widths_in m.holds.items) m.held.low m.held.some) m.stored c.padded.ensures c.requires
