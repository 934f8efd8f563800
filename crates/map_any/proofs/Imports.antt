-- What the proofs of this crate speak of.
pub use Rattle.map_any.specs.Imports.{Fields, kinds_of, Leaf, leaves, schema_fields, Owner, Bit, owner_at, widths_of, full_holds, in_rows, begins_fit, begin_in, IsDense, pieces_in, piece_in, IsLocated, owners_in, IsBitOf, IsLaidOut, Splits, spells_split, bits_located, Hold, Term, Aos, Soa, Aosoa, BitAos, BitSoa, Split, Byteswap, Bytesplit, Change, Count, Heat, Named, depth_of, term_of, leaf_cells, holds_by, layout_of, holds_of, IsBuiltTerm, accepted, bad_field, bad_side, else_for, not_full, layout_by, HasLengths, IsSameRule, IsRuleOf, IsRuled, EachWith, pieces_of, array_of, array_layout, lanes_in, IsArray, IsArrayOf, HasArrays, IsPlanOf, each_push, leaf_cells_kinds, good_numbers, Order, row_at, slot_count, slot_at, index_at, LeafType, Cell, PieceRule, Rule, IsNameless, checked, answered, bad_number, counts_once, bad_granule, Plan, Piece, RunOwner, IsShortIn, short_in, leads, AreReadWide, Run, place_in_is, slot_at_by_rows, entry_of_row, IsInside-reverse, Truth}
pub use Rattle.record_dim.specs.Std.{◌≡◌, ℕ, ◌*◌, ◌<◌, ◌≤◌, List, [], length, get_or, ⊎_elim, sym, ap, ◌∙◌, arith, ◌+◌, ◌/◌, ◌%◌, ◌^◌, ◌∷◌, map, slice_index, refl, subst, Some, Bool, true, false, Ok, Err, All, zero, suc, ◌-◌, ◌⊎◌, inl, inr, replicate, sum_by, slice_get, ◌++◌, length-append, rules, drop, append_assoc, cases_lt, cases_Bool, cond-true, cond-false, and_parts, eqb-true, get_or-map, get_or_past, length-map, get_or-replicate, get_or_default, length-replicate, same_lists, reverse-reverse, drop_more, drop_all, with_items_is, Option, None, IfSome, IsSomeAnd, if◌then◌else◌, not, nat_lt, Result, unwrap_or, reverse, div-add-mod', div-mul-add, mod-mul-add, mod_below, option_or, flat_map, range_with_len, All-head, All-tail, All-map, get_or_from_slice_get, slice_get-get_or, to_z-of_z}
pub use Rattle.map_expr.specs.declared.check.BadMapping.{BadMapping}
pub use Rattle.map_expr.specs.declared.check.BadMapping.TheVariants.{TooDeep, Counter, Side, Field, NotFull}
pub use Rattle.extents.specs.Indices.{indices, IsInside}
pub use Rattle.places.specs.declared.piece.RunOwner.TheVariants.{Pad}
pub use Rattle.extents.specs.IndicesLaws.{inside_of_entry, row_of_inside}
pub use Rattle.extents.specs.declared.order.Order.TheVariants.{Row, Col}
pub use Rattle.linearize.proofs.SlotLemmas.{product_count}
pub use Rattle.map_any.specs.AnyLaws.{holds_cells, cell_rules, any_laws, length-leaf_cells, cell_holds}
pub use Rattle.map_any.specs.Inner.ArrayRuns.{IsArrayRun}
pub use Rattle.map_any.specs.ArrayRunLaws.{array_run, array_holds}
pub use Rattle.map_any.specs.LeafArrays.{HaveArrays}
pub use Rattle.map_any.specs.LeafRules.{AreLeafRules, kind_in, hold_in, IsLeafRule, AreRuled, IsWideIn}
pub use Rattle.map_any.specs.declared.leaf_rule.LeafRule.{LeafRule}
pub use Rattle.map_any.specs.declared.any.AnyMap.{AnyMap}
pub use Rattle.map_any.specs.Inner.Filling.{shown_at, IsShown, IsFilled, ShowBelow, Show, runs_along}
pub use Rattle.map_any.specs.BitRuns.{run_owner, goes_on, joined_run, runs_from}
unfoldable pub use Rattle.map_any.specs.BitRuns.{runs_of}
pub use Rattle.map_any.specs.Counters.{is_counted}
pub use Rattle.map_any.specs.declared.cell_map.CellMap.{CellMap}
pub use Rattle.std.proofs.lemmas.Grind.{common_steps}
