-- What the proofs of this crate speak of.
pub use Rattle.command_checks.specs.Imports.{IsWindow, Fields, kinds_of, schema_fields, MapTerm, term_of, Table, leaf_count_of, granules_for, IsOverLimits, PathStep, reaches, Weighted, weighted, is_divisor, is_weight, TermText, IsTermOf, BadStencil, Unknown, ExtentWord, HasRows, Path}
pub use Rattle.record_dim.specs.Std.{◌≡◌, ℕ, suc, ◌+◌, ◌<◌, List, [], ◌∷◌, ◌++◌, take, drop, get_or, length, refl, sym, ap, ◌∙◌, true, false, ◌-◌, ◌*◌, ◌≤◌, ◌^◌, Bool, map, Ok, arith, cond, Option, Some, None, subst, ⊎_elim, append_assoc, pos, not, rules, Err, length-append, take-append-drop, take_more, get_or-map, length-map, append-nil, map-append, length-take-le, ◌&&◌, nat_lt, ◌||◌, int_le, All, and_parts, le-leb, lt-ltb, or_right, cases_Bool, nat_tests, sum_by_more, BTreeMap, Updates, slice_cmp, bytes_decides, texts_ties, position_from, range_with_len, option_or, nat_cmp, flat_map-append, ints, slice_get_within, All-push, All-nil, All-cons, All-head, All-tail}
pub use Rattle.std.proofs.Math.Seq.{drop-cons}
pub use Rattle.worlds.specs.Prelude.{◌>>=◌, each, refused_if, some_or, Tested, are_inside, windowed, Entry, same_name, made, zeros_of, blob_bits, live_bits, leaves_at, leaves_under, bound_pass, leaf_of, nameless, all_reach, all_weigh, weighted_term, fit_terms}
pub use Rattle.extents.specs.declared.window.Span.{Span}
pub use Rattle.map_checks.specs.Prelude.{leaf_cells, layout_by, accepted, most_slots}
pub use Rattle.piece_bits.specs.declared.mode.StoreMode.{StoreMode}
pub use Rattle.layout_io.specs.Prelude.{joined}
pub use Rattle.subviews.specs.SubViews.{WindowOf}
pub use Rattle.subviews.specs.declared.term.Term.{Term}
pub use Rattle.worlds.specs.declared.fault.BadStencil.TheVariants.{Reach, Weight, Terms, Rounds}
pub use Rattle.expr_lang.specs.Prelude.{leaf_number_is}
pub use Rattle.command_checks.specs.Inner.Gives.{GivesUp}
pub use Rattle.command_checks.specs.GivesLaws.{GivesUp-then}
pub use Rattle.command_checks.specs.declared.fault.StepFault.{StepFault}
pub use Rattle.command_checks.specs.SessionEntries.{view_of, mapping_of}
pub use Rattle.command_checks.specs.declared.entries.ViewEntry.{ViewEntry}
pub use Rattle.command_checks.specs.Inner.Indexed.{place_in, IsIndex}
pub use Rattle.command_checks.specs.Inner.Terms.{placed_term, weighted_at}
pub use Rattle.command_checks.specs.Inner.Bases.{is_nameless}
pub use Rattle.command_checks.specs.BasesLaws.{rows_for_some, rows_for_same, resolves, resolves_not, rows_are}
pub use Rattle.command_checks.specs.PlacesLaws.{free_by_place, placed_at, unknown_name, known_at}
pub use Rattle.std.proofs.lemmas.Grind.{common_steps}
pub use Rattle.advisor.proofs.SteadyLaws.{range_cut}
pub use Rattle.blob_file.proofs.Made.{table_new}
