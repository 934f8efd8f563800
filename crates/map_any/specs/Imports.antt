-- What this crate takes of others.
unfoldable pub use Rattle.extents.specs.Indices.{indices}
pub use Rattle.extents.specs.declared.order.Order.{Order}
pub use Rattle.linearize.specs.Slots.{index_at, slot_at, slot_count}
unfoldable pub use Rattle.linearize.specs.Slots.{row_at}
pub use Rattle.linearize.specs.SlotsLaws.{IsInside-reverse, entry_of_row, place_in_is, row_at-slot_at, slot_at-row_at, slot_at_by_rows}
pub use Rattle.map_checks.specs.Prelude.{EachWith, HasArrays, HasLengths, IsArray, IsArrayOf, IsBuiltTerm, IsBuiltTerm-prop, IsPlanOf, IsRefusal, IsRuleOf, IsRuled, IsSameRule, IsTooBigFor, accepted}
pub use Rattle.map_checks.specs.Prelude.{array_layout, array_of, bad_field, bad_side, each_push, else_for, good_numbers, holds_by, holds_of, lanes_in, layout_by, layout_of, leaf_cells}
pub use Rattle.map_checks.specs.Prelude.{leaf_cells_kinds, length-blob, length-holds, length-in_rows, most_slots, not_full, pieces_of, plan_holds, plan_rules, term_laws}
pub use Rattle.map_checks.specs.declared.plan.Plan.{Plan}
pub use Rattle.map_checks.specs.declared.rule.Rule.{Rule}
pub use Rattle.map_expr.specs.Checks.{IsNameless, answered, bad_granule, bad_number, checked, counts_once}
pub use Rattle.map_expr.specs.Terms.{Aos, Aosoa, BitAos, BitSoa, Bytesplit, Byteswap, Change, Count, Heat, Named, Soa, Split, Term, depth_of, term_of, uncounted}
pub use Rattle.piece_bits.specs.Prelude.{AreReadWide, IsShortIn, IsShortOf, leads, short_in}
pub use Rattle.places.specs.Prelude.{Bit, IsBitOf, IsDense, IsLaidOut, IsLocated, IsPiece, Owner, Pad, Splits, begin_in, begins_fit, bit_in_row, bits_located, full_holds, in_rows, owner_at}
pub use Rattle.places.specs.Prelude.{owner_relabel, owners_in, piece_in, pieces_in, ranges_at, renamed, spells_split, widths_of}
pub use Rattle.places.specs.declared.piece.Cell.{Cell}
pub use Rattle.places.specs.declared.piece.Hold.{Hold}
pub use Rattle.places.specs.declared.piece.Piece.{Piece}
pub use Rattle.places.specs.declared.piece.Run.{Run}
pub use Rattle.places.specs.declared.piece.RunOwner.{RunOwner}
pub use Rattle.places.specs.declared.rule.PieceRule.{PieceRule}
pub use Rattle.record_dim.specs.Prelude.{Fields, IsDeclared, IsIn, Leaf, is_signed, kinds_of, leaves, schema_fields}
pub use Rattle.record_dim.specs.Std.{ap, append-nil, arith, cases_lt, div-add-mod', flat_map, flat_map-cons, length-map, mul-le, range_with_len, row_fits, subst, sym, ⊎_elim, ◌∙◌}
pub use Rattle.record_dim.specs.declared.leaf_type.LeafType.{LeafType}
pub use Rattle.record_dim.specs.declared.leaf_type.LeafType.TheVariants.{Bool as Truth}
pub use Rattle.std.proofs.Props.{props}
pub use Rattle.std.specs.Prelude.{All, Bool, IfErr, IfOk, IfSome, IsSomeAnd, List, None, Ok, OnOk, Option, Some, [], false, get_or, length, map, option_map, refl, slice_index, slice_index_or, true, ℕ}
pub use Rattle.std.specs.Prelude.{ℤ}
