use Rattle.map_aos.proofs.Imports.{[], ◌∷◌, slice_index, arith, widths_of, aos_layout, begins_fit, common_steps}
use Rattle.map_aos.proofs.aos.AosMapping.locate.Goals as goal

pub pieces-requires : goal.pieces-requires
pieces-requires c =
    let m = c.args.self.now in
    let rule = c.rule.result in
    record {
      fits = begins_fit (aos_layout m.form m.slots (widths_of m.cells.items)) c.args.slot c.args.cell _ c.args.slot (rule ∷ [])
          (c.rule.ensures.places c.args.slot c.requires.slot_in) 0 rule (omega arith);
    }

pub returns : goal.returns
returns c = grind (arith, common_steps, slice_index)
