-- The lemmas of this crate that answers cite.
pub use Rattle.map_any.proofs.Imports.{◌≡◌, ◌<◌, ℕ, length, Some, ◌∙◌, subst, sym, arith, rules, Option, IfSome, Order, kinds_of, leaves, Leaf, schema_fields, length-map, term_of, leaf_cells, array_of, lanes_in, ◌*◌, List, [], get_or, replicate, ap, with_items_is, Owner, RunOwner, Pad, IsFilled, Show, refl, AnyMap, LeafRule, length-leaf_cells, IsWideIn, layout_by, leads, common_steps, map, All, All-map, indices, slot_at, Hold, Piece, piece_in, PieceRule, pieces_of, Ok, false, Fields, Cell, Term, bad_number, accepted, not_full, IsBuiltTerm, is_counted, EachWith, IsRuled, IsPlanOf, ◌≤◌, ◌∷◌, slice_index, IsLocated, begins_fit, pieces_in, ◌/◌, begin_in, ◌%◌, leaf_cells_kinds, AreReadWide, ◌+◌, ◌-◌, drop, flat_map, range_with_len, drop_more, drop_all, Bit, owners_in, IsLaidOut, spells_split, bits_located, IsShown, ShowBelow, slice_get, slice_get-get_or, Rule, CellMap, layout_of, good_numbers, append_assoc}
pub use Rattle.map_any.proofs.ArrayLaws.{few_slots, leaf_array, leaves_arrays, piece_fits, array_place}
pub use Rattle.map_any.proofs.EvenLaws.{blocks_have_lanes, lanes_or, array_places}
pub use Rattle.map_any.proofs.Filling.{layout_in, laid_in, leaf_in, filled_self, filled_twice, filled_all, shows_more, width_in, not_here, narrow_in, piece_filled, shows_piece, shows_other, shows_all}
pub use Rattle.map_any.proofs.LeafLaws.{leaf_placed, leaf_whole, leaves_ruled, whole_holds, whole_rules, leaf_short, short_uncounted}
pub use Rattle.map_any.proofs.Built.{good_parts, good_number, accepted_numbers, built_nameless}
pub use Rattle.map_any.proofs.CellFacts.{rule_located, rule_begins, has_rule, rule_in}
pub use Rattle.map_any.proofs.RunLaws.{runs_shown, run_longer, run_ends}
pub use Rattle.map_any.proofs.AnyFacts.{bytes_of, bytes_at, hold_in, length-sized}
unfoldable pub use Rattle.map_any.proofs.Imports.{runs_of}
