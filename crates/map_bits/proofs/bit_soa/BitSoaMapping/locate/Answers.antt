use Rattle.map_bits.proofs.Imports.{[], ◌∷◌, arith, begins_fit, widths_in, bit_soa}
use Rattle.map_bits.proofs.bit_soa.BitSoaMapping.locate.Goals as goal

pub pieces-requires : goal.pieces-requires
pieces-requires c =
    let m = c.args.self.now in
    let rule = c.rule.result in
    record {
      fits = begins_fit (bit_soa m.slots (widths_in m.holds.items)) c.args.slot c.args.cell _ c.args.slot (rule ∷ [])
          (c.rule.ensures.places c.args.slot c.requires.slot_in) 0 rule (omega arith);
    }
