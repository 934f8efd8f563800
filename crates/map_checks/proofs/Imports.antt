-- What the proofs of this crate speak of.
pub use Rattle.map_checks.specs.Imports.{fold, count_by, Hold, PieceRule, PathStep, Fields, width_of, is_under, IsUnder, leaves_before, schema_fields, leaves, kinds_of, Cell, Term, Split, Byteswap, Bytesplit, Change, term_of, byte_cells_of, byte_count, changed, differ, NewMapping, indices, Order, slot_at, slot_count, row_at, index_at, slot_of, U8, Piece, FieldWidth, LeafType, merged, rank_first, rank_rest, merged_first, merged_rest, rank_first_in, rank_rest_in, length-merged, map-merged, number_first, number_rest, slot_at_below, slot_at_by_rows, shifted_rule, swapped, swapped_rules, differ_none, narrow_each}
pub use Rattle.record_dim.specs.Std.{◌≡◌, ℕ, ◌^◌, ◌≤◌, List, [], ◌∷◌, length, get_or, map, sym, ap, ◌∙◌, subst, Bool, true, false, ◌+◌, ◌-◌, ◌*◌, ◌/◌, ◌%◌, ◌<◌, ◌⊎◌, All, refl, sum_by, inr, ⊎_elim, Result, Ok, Err, zero, suc, ◌++◌, slice_index, take, drop, replicate, arith, length-append, slice_index_or, below_more, get_or-set_other, get_or-set_same, nat_lt, rules, if◌then◌else◌, not, filter, max, nat_le, ◌&&◌, sum, flat_map, list_any, length-map, get_or-map, same_lists, get_or-take, get_or-drop, length-take-le, length-drop, take_more, take_all, map-append, append-nil, get_or_append_left, get_or-append-add, get_or-replicate, length-replicate, get_or_default, length-set, map_push, replicate_more, sum-map, sum_by-cons, sum_by-append, sum_by_more, fold-append, count_by_more_yes, count_by_more_no, IsErrAnd, IsErrOf, flat_map-append, All-append, All-nil, All-head, All-tail, All-map, All-weaker, All-cons, false≢true, cases_Bool, cases_lt, true≢false, or_right, map-map, get_or_from_slice_get, slice_get_within, zip_first, zip_second, iter_rest, ◌||◌, common_steps}
pub use Rattle.std.specs.Result.{IfErr}
pub use Rattle.places.specs.Prelude.{Owner, Bit, aosoa, bit_aos, bit_soa, AreRulesOf, IsDense, piece_in, pieces_in, relabel, byte_cells, byteswap, bytesplit, in_rows, split, recelled, numbers_of, widths_of, full_holds, IsTooBig, hold_within, narrow_holds, widths_in, widths_whole, widths_narrow, widths_full, widths_wide, IsLocated, shifted, length-widths, length-full, relabel_located, left_located, right_located, aos_layout, soa_layout}
pub use Rattle.map_bytes.specs.ByteCellsLaws.{length-bytes, widths_of_bytes, bytes_before, byte_cell_at, byte_within, byte_count_is, byte_count_before}
pub use Rattle.map_bytes.specs.CutLaws.{one_of_eight, swapped_in, swapped_blobs, swapped_eights, swapped_bounds, swapped_bits}
pub use Rattle.map_bytes.specs.JoinLaws.{byte_joined, none_located}
pub use Rattle.map_split.specs.SizesLaws.{lengths-split, bits-split}
pub use Rattle.map_bytes.specs.SwapPiecesLaws.{swap_located}
pub use Rattle.map_expr.specs.declared.expr.MapExpr.{MapExpr}
pub use Rattle.map_split.specs.MoreLaws.{merged_more_first, merged_more_rest}
pub use Rattle.map_checks.specs.Arrays.{IsArray, AreArrays}
pub use Rattle.map_checks.specs.declared.rule.Rule.{Rule}
pub use Rattle.map_checks.specs.Inner.ByteRules.{HasWholeBytes, HasOnePiece, AreSwapped, AreJoined, IsJoined, bytes_at, IsSwapped}
pub use Rattle.map_checks.specs.Inner.LeafOrders.{order_of, orders_of}
pub use Rattle.map_checks.specs.Mappings.{layout_of, holds_of, not_full, most_slots, IsTooBigFor, accepted, IsRefusal, ordered, leaf_cells}
pub use Rattle.map_checks.specs.Sides.{cells_under, cells_beside, side_of}
pub use Rattle.map_checks.specs.Plans.{IsPlanOf, IsPlanFor}
pub use Rattle.map_checks.specs.Ruled.{IsRuled, IsRuleOf, HasLengths, EachWith, pieces_of}
pub use Rattle.map_checks.specs.TermLaws.{length-holds, cells_first, cells_rest, good_widths}
pub use Rattle.map_checks.specs.declared.plan.Plan.{Plan}
pub use Rattle.map_checks.specs.declared.fault.MakeMap.{MakeMap}
pub use Rattle.map_checks.specs.declared.fault.MakeMap.TheVariants.{TooBig, NoMemory}
pub use Rattle.map_checks.specs.Inner.Faults.{fault_of}
pub use Rattle.map_checks.specs.Widths.{width_by, width_at, is_said, LastCounts, cell_widths, has_cell}
pub use Rattle.map_checks.specs.RowsLaws.{sum-blobs, row_located, length-in_rows, lengths-rows}
pub use Rattle.map_checks.specs.Inner.Splits.{IsSplitRule, AreSplitRules, LieWithin, IsShifted}
pub use Rattle.map_checks.specs.PlansLaws.{plan_holds, plan_rules}
pub use Rattle.map_checks.specs.RuledLaws.{each_push}
pub use Rattle.map_checks.specs.Inner.LeafCells.{leaf_cells_more}
