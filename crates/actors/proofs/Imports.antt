-- What the proofs of this crate speak of.
pub use Rattle.actors.specs.Imports.{Term, outcome_of, index_at, entry, bit_held, image, number, digit, Owner, Pad, Bit, owner_at, IsBitOf, IsLaidOut, number_same, number_bits, bit_number, digit_lt, written_bit, IsWrite, UpdateFault, Assign, stores_log, if_given, row_log, update_log, value_log, filter_log, if_ok, if_passes, sides_log, tried_log, Fields, kinds_of, schema_fields, IsIn, Shape, term_of, StoreMode, Asks, bits_of, AreBytes, bit_in, Place, RunOwner, IsRowOf, task_at, AreRowsOf, byte_behind, origin, Reads, Sets, place_steps, left_in}
pub use Rattle.record_dim.specs.Std.{or-false, or_right, ne_eqb, get_or-replicate, set-append_right, ◌≡◌, ℕ, ◌+◌, ◌-◌, ◌<◌, ◌≤◌, filter, All, Bool, true, false, ℤ, pos, List, [], ◌∷◌, ◌++◌, length, map, get_or, set, take, drop, Option, Some, None, Result, Ok, Err, refl, sym, ap, ◌∙◌, subst, ⊎_elim, arith, append_assoc, length-append, ◌*◌, ◌/◌, replicate, ◌%◌, ◌^◌, suc, zero, fold, rules, SFits, FitsSigned, ◌==◌, ◌||◌, if◌then◌else◌, ◌&&◌, slice_index, slice_set, option_map, not, or_parts, nat_tests, list_any_none, cases_eq, eq-eqb, eqb-true, and_from, and_parts, cond-true, cond-false, cases_lt, append-nil, get_or-map, get_or-set_same, get_or-set_other, get_or-append_right, get_or-drop, length-map, length-set, length-take, length-drop, take_more, take_all, drop_all, drop_more, ext_get_or, map-append, set-get_or, set-set, map-set, drop-set, length-replicate, drop-map, take-map, get_or_default, filter-append, bit_at, w128, range_with_len, flat_map, list_any, get_or-append, get_or-append_seam, flat_map-append, fold-append, fun_ext, length-map-range_with_len, get_or-map-range_with_len, to_z-of_z, get_or_from_slice_get, common_steps}
pub use Rattle.piece_bits.specs.Prelude.{AreSized, table_in, with_entry, declared_table, kind_at, IsCell, bit_count, some_bits, few_bits, apart, still_sized, spot_count, spot_owned, pieces_within, spots_of, spot_at, bit_at_spot, IsOutside, held, declared, held_digit, low_in}
pub use Rattle.views.specs.Prelude.{stays_answer, StoreAnswer, Keeping, without_number, kept_or, Table, owners_of, leaf_types_of, leaf_count_of, table_holds, answer_of, kept_of, after_stores, blob_bits_of, IsTable, after_log, Access, Write, is_write, writes_in, blob_lengths, Read, is_read, reads_in, Tally, after_stores-append, after_log-none, logs_more, after_log-append}
pub use Rattle.actor_steps.specs.Prelude.{IsLawful, IsParted, SchedulesAgree, leaf_count, memory_is, rows_read, job_of, memory_of, fresh_of, team_start, Job, is_in, row_as_it_stands, lets_through, Micro, Registers, byte_at, with_byte, with_bits_of, stored, loaded, filter_reads, set_reads, leaves_read, bytes_in, owners_of_byte, Fetch, Load, Store, steps_of, row_in, value_kept_on, length-with_values, passed, updated_at, updated_length, Actor, State, moved, cuts_end, AreCuts, actor_of, parts_from, team_of, zeros-sized, shared_byte, first_of_all, are_of_two, is_shared, idle_with, run_by, turns_from, turns_left, finished, row_in-at, length-row_in, with_byte-sized}
pub use Rattle.row_updates.specs.Rows.{Setting, setting_of, each, ◌>>=◌, passes, new_value, with_values, tried_row, given_row, updated_row, updated_of, IsSetOf, filter_term}
pub use Rattle.row_updates.specs.TriedLaws.{updated_as_tried, log_as_tried}
pub use Rattle.row_updates.specs.EachLaws.{rows_push, rows_stop}
pub use Rattle.std.proofs.lemmas.List.Elements.{All-push, All-set}
pub use Rattle.extents.specs.Indices.{indices}
pub use Rattle.instrument.specs.BlobTexts.{bytes_of}
pub use Rattle.instrument.specs.BlobTextsLaws.{bytes_of_bits}
pub use Rattle.places.specs.declared.piece.Hold.{Hold}
pub use Rattle.places.specs.declared.piece.Piece.{Piece}
pub use Rattle.blobs.specs.BytesLaws.{bit_of_byte}
pub use Rattle.map_any.specs.BitRuns.{run_owner}
pub use Rattle.actor_tasks.specs.declared.rows.NextByte.{NextByte}
pub use Rattle.actor_tasks.specs.TasksLaws.{rows_left}
pub use Rattle.map_any.specs.AnyLaws.{length-leaf_cells}
pub use Rattle.views.specs.declared.fault.StoreFault.{StoreFault}
pub use Rattle.record_dim.specs.declared.leaf_type.LeafType.TheVariants.{Bool as Truth}
pub use Rattle.actors.specs.Rows.{row_held, with_held, ArePlans, HasByte, marked, IsRowPlanOf, asks_at}
pub use Rattle.actors.specs.declared.actor.Actor.{Actor as Standing}
pub use Rattle.actors.specs.RunFields.{table_at, actor_run_of, IsActorRun, IsReached, AreStanding}
pub use Rattle.actors.specs.ActorRuns.{Run, without_counts, started_run, IsDone, IsPlain, after_turns, finished_from, rest_in, job_in, has_any, IsPlainMemory, IsStoredBack}
pub use Rattle.actors.specs.Standing.{actor_shown, store_of, cursor_steps, set_at, IsFresh, IsStanding, IsCursor, IsTurn, step_shown, bytes_shown, state_shown, IsStepOf}
pub use Rattle.actors.specs.Updates.{IsUpdated, IsUpdatedRow}
pub use Rattle.actors.specs.Cuts.{owner_shown, shown_in_byte}
pub use Rattle.actors.specs.declared.step.Cursor.{Cursor}
pub use Rattle.actors.specs.declared.actor.Bytes.{Bytes}
pub use Rattle.actors.specs.declared.step.Step.{Step}
pub use Rattle.actors.specs.RunLaws.{after_both}
pub use Rattle.actors.specs.declared.fault.ActorFault.TheVariants.{Update, NoMemory}
