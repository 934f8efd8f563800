-- What the proofs of this crate speak of.
pub use Rattle.record_dim.specs.Std.{◌≡◌, ℕ, zero, suc, ◌+◌, ◌-◌, ◌*◌, ◌/◌, ◌%◌, ◌^◌, ◌<◌, ◌≤◌, inr, ⊎_elim, List, [], ◌∷◌, ◌++◌, map, length, sum_by, get_or, slice_index, take, refl, sym, ap, ◌∙◌, subst, arith, length-append, All, below_more, Err, rules, flat_map, range_with_len, enumerate_from, sum, cases_lt, row_fits, div-add-mod', mul-le, div-mul-add, get_or_read, get_or_append_left, get_or-append-add, get_or-map, get_or_push, get_or_default, length_push, sum_by-cons, sum_by_more, sum_by-take-le, div_ceil, IsErrOf, common_steps}
pub use Rattle.places.specs.Prelude.{Owner, Pad, Bit, owner_at, cells_of, lane, block_of, aosoa, IsLocated, widths_of, full_holds, IsTooBig, within, field_at, length-parts, slot_at, times_bytes, one_piece, cell_width, length-widths, width_read, widths_whole, width_whole, dense_lanes, begins_fit}
pub use Rattle.places.specs.declared.piece.Cell.{Cell}
pub use Rattle.places.specs.declared.piece.Hold.{Hold}
pub use Rattle.places.specs.declared.piece.Piece.{Piece}
pub use Rattle.record_dim.specs.Prelude.{width_of}
pub use Rattle.places.specs.declared.mapping.NewMapping.TheVariants.{TooBig}
pub use Rattle.map_aosoa.specs.Aosoa.{LieInBlocks, block_count}
pub use Rattle.map_aosoa.specs.AosoaLaws.{lanes_of, lane_is, length-lane, in_blocks, aosoa_laws}
pub use Rattle.map_aosoa.specs.declared.block.Block.{Block}
