-- The lemmas of this crate that answers cite.
pub use Rattle.actors.proofs.Imports.{◌∙◌, ℕ, [], None, List, length, rules, arith, SFits, subst, ap, w128, to_z-of_z, length-leaf_cells, setting_of, owners_of, job_of, row_in, value_kept_on, IsStepOf, common_steps, ◌≡◌, ◌∷◌, ℤ, pos, get_or, FitsSigned, Result, Ok, sym, with_entry, IsSetOf, without_number, kept_or, Table, answer_of, after_stores, Write, StoreFault, row_held, ◌<◌, ◌≤◌, false, map, indices, filter_term, kept_of, memory_of, lets_through, Asks, updated_length, updated_of, option_map, Owner, run_owner, actor_of, shared_byte, owner_shown, drop, is_shared, IsWrite, bit_in, byte_at, with_byte, length-set, get_or_from_slice_get, Truth, kinds_of, Fields, entry, table_in, declared, kind_at, leaf_types_of, table_holds, leaf_count_of, IsIn, number, digit, IsCell, some_bits, few_bits, bit_count, apart, pieces_within, held, low_in, slice_index, true, index_at, given_row, IsRowPlanOf, ◌+◌, Err, update_log, updated_row, after_log, Update, NoMemory, ArePlans, IsUpdatedRow, reads_in, fresh_of, Run, job_in, rest_in, schema_fields, term_of, after_log-none, table_at, actor_run_of, IsActorRun, without_counts, IsPlain, IsPlainMemory, IsStoredBack, All-set, IsStanding, Bool, set, get_or_default, AreSized, State, Micro, Registers, after_turns, has_any, IsTurn, refl}
pub use Rattle.actors.proofs.Turns.{store_made, targets_inside, plans_told, stands_counted, turned_state, made_any, not_made, stands_alone, reached_more}
pub use Rattle.actors.proofs.Backs.{none_stored, one_stored, none_back, one_back, all_back, back_sized, back_held, back_takes, back_sets, back_count, AreBack}
pub use Rattle.actors.proofs.SharedBytes.{blob_first, blob_here, blob_later, first_from}
pub use Rattle.actors.proofs.Scans.{shared_is, differs}
pub use Rattle.actors.proofs.Bytes.{byte_changed, is_write}
pub use Rattle.actors.proofs.Blobs.{one_copied}
pub use Rattle.actors.proofs.Laws.{raw_here, one_held, all_held}
pub use Rattle.actors.proofs.Marks.{plan_left, plan_through, no_plans, one_plan}
pub use Rattle.actors.proofs.Tried.{row_updated, none_tried, one_read, one_tried, stop_tried, AreTried}
pub use Rattle.actors.proofs.Finishes.{all_done, finished_plain, turn_made, IsLeft, done_plain}
pub use Rattle.actors.proofs.Begins.{table_same, run_begun, run_kept}
pub use Rattle.actors.proofs.Teams.{IsTeam, AreTeam, one_more, all_team}
pub use Rattle.actors.proofs.Steps.{store_next, fetch_next, load_next}
