-- What the proofs of this crate speak of.
pub use Rattle.advisor.specs.Imports.{Term, term_of, uncounted, Named, Split, Byteswap, Bytesplit, Change, Count, Heat, depth_of, LeafType, Cell, IsInside, granules_in, granules_of, HeatCounts, heated_by, no_heat, heat_counts, Order, interleaved, row_at, slot_count, index_at, slot_at, BadMapping, MakeMap, PathStep, Hold, Piece, PieceRule, indices, StoreFault, StoreMode, hold_at, stays_declared, low_64}
pub use Rattle.record_dim.specs.Std.{or-false, and-true, ◌≡◌, ℕ, ◌≤◌, Bool, true, false, List, All, length, map, take, Ok, Err, Some, None, sym, ap, ◌∙◌, arith, length-append, suc, ◌<◌, [], ◌∷◌, get_or, Option, refl, ◌+◌, ◌++◌, ⊎_elim, ◌*◌, zero, ◌-◌, ◌/◌, ◌%◌, ◌^◌, ◌⊎◌, subst, lit<, min, w64, inl, inr, drop, add-one, drop-cons, cond, max, ℤ, pos, replicate, rules, length-drop, set, slice_index_or, filter, is_ok, ◌&&◌, ◌||◌, not, nat_le, if◌then◌else◌, slice_get, ◌==◌, sum_by, bit_and, is_some, nat_lt, Result, count_by, option_map, IfSome, take-append-le, take_all, length-map, get_or-map, get_or_default, drop_all, append_assoc, append-nil, take_more, map_push, length-take, get_or-take, get_or-drop, take-map, drop-map, length-replicate, get_or-replicate, get_or_push, get_or_append_left, length_push, get_or_read, take_more_set, map_more, length-take-le, then_some, find, list_all, position_or_len, list_any, enumerate_from, range_with_len, flat_map, true≢false, and_from, le-leb, lt-leb, ne_eqb, eq-eqb, cases_eq, cases_lt, or_left, or_right, or_from, lt-ltb, le-ltb, leb-false, ltb-false, and_parts, eqb-true, ltb-true, leb-true, or_parts, not-true, slice_get-get_or, slice_get_past, get_or_from_slice_get, map-map, find_at, list_all_at, list_any-append, list_any_none, fold-map, Any-from_list_any, list_any_at, list_all-map, list_all-append, list_any_more, flat_map-map, position_or_len_is, list_all-from_AllPass, sum_by-cons, sum_by-append, AllPass-from_list_all, sum-map, sum_by-le-sum_by, count_by-le-length, sum_by_more, sum_by_more_le, sum_by-take-le, All-push, length_all_zip, AllZip-get_or, filter-append, All-map, fun_ext, get_or-enumerate_from, length-enumerate_from, get_or-range_with_len, length-range_with_len, bit_at, trailing_zeros, div_ceil, shr_split, pow_pos, mul-le, mod_below, div-add-mod', div-mul-add, mod-mul-add, bit_at-zero, bit_at-lt, bit_at_lowest, bit_at_above, bit_at_cat_low, bit_at_cat_high, shr_and_one, same_from_bits, div-le_self, mod-eq_of_lt, mul_comm, mul-div-le, pow-le-pow_right, mul-add, mod-lt, flat_map-append, same_number_lists, option_or, take-add, flat_map-cons, flat_map_single, map_over_more, common_steps}
pub use Rattle.std.proofs.Common.{pow-suc}
pub use Rattle.views.specs.Prelude.{Table, leaf_types_of, leaf_count_of, leaf_type_of, IsTable, after_log, blob_lengths, Access, Read, Tally, tallied, row_accesses, all_accesses, HasGranules, piece_inside, blob_granules, is_between, in_leaf, column_reads, tallied-kinds, raised, run_of, raised_all, after_log-none, after_log-append, accesses_more}
pub use Rattle.record_dim.specs.declared.leaf_type.LeafType.TheVariants.{Bool as Truth}
pub use Rattle.places.specs.Prelude.{Owner, Bit, IsLaidOut, IsLocated, IsPiece, renamed, recelled, numbers_of, split, is_in_granule, is_hot, is_touched, begin_in, piece_in, pieces_in, entry}
pub use Rattle.map_checks.specs.Prelude.{leaf_cells, layout_of, most_slots, accepted, not_full, IsTooBigFor, IsRefusal, IsBuiltTerm, holds_by, bad_side, bad_field, else_for, holds_of, cells_under, cells_beside, side_of, length-holds, good_numbers, IsRuleOf}
pub use Rattle.extents.specs.IndicesLaws.{row_of_inside}
pub use Rattle.extents.specs.declared.order.Order.TheVariants.{Row, Col, Morton}
pub use Rattle.linearize.specs.MortonLaws.{bit_at-interleaved, bit_at-component}
pub use Rattle.linearize.specs.SlotsLaws.{index_at_inside, row_at-slot_at, row_at-slot_of, slot_at-row_at, slot_at_below}
pub use Rattle.map_any.proofs.SlotRows.{has_rows}
pub use Rattle.piece_bits.proofs.StretchLaws.{twos_divide}
pub use Rattle.record_dim.specs.Prelude.{Fields, Leaf, leaves, kinds_of, schema_fields, is_under, least_of, greatest_of, least_in, greatest_in, IsDeclared}
pub use Rattle.map_expr.specs.declared.check.BadMapping.TheVariants.{NotFull, TooDeep, Counter}
pub use Rattle.map_any.proofs.Built.{good_parts, good_number}
pub use Rattle.map_checks.specs.declared.fault.MakeMap.TheVariants.{Bad, TooBig, NoMemory}
pub use Rattle.map_any.specs.AnyLaws.{length-leaf_cells}
pub use Rattle.map_checks.specs.declared.rule.Rule.{Rule}
pub use Rattle.map_expr.specs.Checks.{has_counter, counts_once, bad_number, answered}
pub use Rattle.places.specs.TouchedLaws.{touched_hot as pieces_hot}
pub use Rattle.piece_bits.specs.declared.mode.StoreMode.TheVariants.{Strict}
pub use Rattle.instrument.specs.WarmingLaws.{length-warmed, length-heated, get-warmed, get-warmed_blob, inside-counted}
pub use Rattle.map_expr.specs.declared.expr.MapExpr.{MapExpr}
pub use Rattle.map_checks.specs.declared.plan.Plan.{Plan}
pub use Rattle.instrument.specs.RoundingLaws.{rounded}
pub use Rattle.advisor.specs.declared.advice.AdviseFault.{AdviseFault}
pub use Rattle.advisor.specs.declared.candidate.Candidate.{Candidate}
pub use Rattle.advisor.specs.declared.pass.Pass.{Pass}
pub use Rattle.advisor.specs.Advice.{Advised, judge, cost_of, candidates, advised, is_best, splits_at}
unfoldable pub use Rattle.advisor.specs.Advice.{advice}
pub use Rattle.advisor.specs.Judged.{first_judged_fault, is_over, limited, fault_or}
unfoldable pub use Rattle.advisor.specs.Judged.{judged}
pub use Rattle.advisor.specs.Inner.Pools.{IsPriced, HasKnownHolds, terms_in}
pub use Rattle.advisor.specs.Suits.{keeps, stays, leaf_stays, all_stay}
unfoldable pub use Rattle.advisor.specs.Suits.{suits}
pub use Rattle.advisor.specs.Inner.Choices.{costs_in, cost_at, is_marked, AreMarked, IsLeast, IsCheapest}
pub use Rattle.advisor.specs.Inner.SideCosts.{term_at, IsHold, IsSideCost}
pub use Rattle.advisor.specs.TouchedLaws.{touched_alike, touched_split, same_tests, any_map, touched_hot}
pub use Rattle.advisor.specs.TouchedBy.{IsTouchedBy}
pub use Rattle.advisor.specs.Passes.{reads, cost, part_cost, leaves_in}
pub use Rattle.advisor.specs.Inner.Curve.{component, gathered, has_row, IsFarFromEnds, IsOutside}
pub use Rattle.advisor.specs.declared.mapped.RuledMap.{RuledMap}
pub use Rattle.advisor.specs.Touched.{touched, holds_cell, is_bit_in, holds_bit, touched_blob}
pub use Rattle.advisor.specs.Inner.Steady.{IsSteady, HasSteps, is_run_touched, are_rows_touched, long_piece, are_slots_touched}
pub use Rattle.advisor.specs.declared.trials.Trial.{Trial}
pub use Rattle.advisor.specs.Inner.Trials.{IsTrial, IsFresh, HasTrials, same_hold, is_for, has_trial, takes, tried_all, has_not_failed, none_failed, rows_accesses, all_lows_stay, tried_leaf}
pub use Rattle.advisor.specs.Inner.Warm.{is_warm, IsCounted, warm_at, IsWarmed}
pub use Rattle.advisor.specs.declared.advice.Best.{Best}
