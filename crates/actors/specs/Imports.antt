-- What this crate takes of others.
pub use Rattle.actor_steps.specs.Prelude.{Actor, AreCuts, Fetch, IsByte, IsLawful, IsParted, Job, Load, Micro, Registers, State, Store, actor_of, byte_at, filter_reads, first_of_all, fresh_of}
pub use Rattle.actor_steps.specs.Prelude.{idle_with, is_in, is_shared, job_of, leaves_read, lets_through, loaded, memory_of, number_in, parts_from, row_in, run_by, run_by-append, set_reads}
pub use Rattle.actor_steps.specs.Prelude.{shared_byte, stored, team_of, team_start, test_of, turns_from, turns_left, value_kept_on, with_bits_of, with_byte}
pub use Rattle.actor_steps.specs.declared.place.Place.{Place}
pub use Rattle.actor_tasks.specs.Marks.{AreRowsOf, IsRowOf, task_at}
pub use Rattle.actor_tasks.specs.Places.{byte_behind, origin}
pub use Rattle.actor_tasks.specs.Tasks.{Reads, Sets, Task, left_in, place_steps}
pub use Rattle.actor_tasks.specs.declared.rows.Asks.{Asks}
pub use Rattle.blobs.specs.Bits.{AreBytes, bit_in, bits_of}
pub use Rattle.expr_lang.specs.Prelude.{Binary, Entry, Index, Neg, Not, Number, Term, bound_leaves, bound_rank, bound_term, outcome_of}
pub use Rattle.linearize.specs.Slots.{index_at}
pub use Rattle.map_expr.specs.Terms.{Term as Shape, term_of}
pub use Rattle.piece_bits.specs.Prelude.{AreSized, declared_table, table_in}
pub use Rattle.piece_bits.specs.declared.mode.StoreMode.{StoreMode}
pub use Rattle.places.specs.Prelude.{Bit, IsBitOf, IsLaidOut, IsWrite, Owner, Pad, bit_held, bit_number, digit, digit_lt, entry, image, number, number_bits, number_same, owner_at, written_bit}
pub use Rattle.places.specs.declared.piece.RunOwner.{RunOwner}
pub use Rattle.record_dim.specs.Prelude.{Fields, IsIn, apart, head, kinds_of, schema_fields, tail}
pub use Rattle.record_dim.specs.Std.{Coded, ap, arith, coded_ℕ, coded_ℤ, sym}
pub use Rattle.row_updates.specs.Logs.{filter_log, if_given, if_ok, if_passes, row_log, sides_log, stores_log, tried_log, update_log, value_log}
pub use Rattle.row_updates.specs.Rows.{IsBoundOver, IsSetOf, Setting, filter_term, setting_of, updated_of, updated_row}
pub use Rattle.row_updates.specs.declared.fault.UpdateFault.{UpdateFault}
pub use Rattle.row_updates.specs.declared.update.Assign.{Assign}
pub use Rattle.std.specs.List.{flat_map, range_with_len}
pub use Rattle.views.specs.Prelude.{Table, after_log, after_stores, answer_of, kept_of, leaf_count_of, leaf_types_of, owners_of, reads_in, table_holds, table_under, writes_in}
