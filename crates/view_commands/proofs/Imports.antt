-- What the proofs of this crate speak of.
pub use Rattle.view_commands.specs.Imports.{Assignment, Value, Mapping, assignment_of, BadIndex, Twice, TooBig, NotCounted, BadActors, Owner, Pad, Bit, owner_at, IsLaidOut, IsOwnerBelow, image, bit_held, CommandFault, Cuts, Turns, Fields, texts_of, leaves, same_text, GivesUp, indices, IsInside, Setting, setting_of, filter_term, IsSetOf, updated_of, Term, bound_term, outcome_of, Run, started_run, after_turns, Stencil, StepFault, StoreFault, UpdateFault, bits_of, slice_get, map_tokens, mapping_of, place_in, question_of, run_rows, update_log, value_log, with_entry, written, with_tokens_behind}
unfoldable pub use Rattle.view_commands.specs.Imports.{advise, advice_text, assigned, counts, heat, layout, print, kernel_run, print_window, save, updated, updated_by_actors, stencil_run}
pub use Rattle.views.specs.Prelude.{Access, Tally, Write, Read, all_accesses, reads_in, writes_in, reads_first, Table, leaf_count_of, after_log, after_stores, owners_of, answer_of, kept_of, after_write, leaf_types_of, column, column_reads, tallied-append, tallied-none, logs_more, without_number}
pub use Rattle.advisor.specs.Advice.{Advised, advice, told_by}
pub use Rattle.record_dim.specs.Std.{◌≡◌, ℕ, zero, suc, ◌<◌, true, false, nat_eq, List, [], ◌∷◌, length, Some, refl, sym, ap, ◌∙◌, ⊎_elim, Ok, Err, ◌+◌, map, get_or, All, subst, ◌≤◌, Bool, ◌++◌, take, drop, arith, add-one, ℤ, Option, None, Result, nat_lt, pos, ◌-◌, codes, option_map, append-nil, append_assoc, ◌/◌, ◌%◌, ◌^◌, nat_le, rules, ◌*◌, FitsSigned, IsErr, length_all_zip, All-nil, All-cons, All-tail, All-append, All-get_or, All-push, Bor, IsDistinct-push, IsErrAnd, cases_Bool, false≢true, and_parts, leb-true, drop_of_length-le, list_any, enumerate_from, range_with_len, ◌||◌, slice_index_or, not, sum_by, slice_set, filter, get_or-enumerate_from, length-enumerate_from, length-map, take-append-drop, map-append, take_more, take_all, take-map, length-drop, length-set, length-le_from_distinct_below, nat_list_eq_equiv, nat_eq_equiv, nat_tests, option_copied, pointwise, to_z-of_z, w128, OnErr, OnOk, get_or-map, cases_lt, common_steps}
pub use Rattle.std.proofs.Common.{flat_map}
pub use Rattle.view_commands.specs.Inner.Answers.{Answers, IsLeft, left_with}
pub use Rattle.actor_steps.specs.Prelude.{AreCuts, actor_of, are_cuts, Job, Micro, Registers, stored, loaded, State, moved, turned, are_cuts-are, next, entries, schedule_of, idle_with, run_by, memory_of, written_by, team_start, job_of, fresh_of, shared_byte}
pub use Rattle.row_updates.specs.declared.update.Assign.{Assign}
pub use Rattle.advisor.specs.declared.advice.Best.{Best}
pub use Rattle.view_commands.specs.Inner.Teams.{Bindings, shared_out, acted, bindings_of}
pub use Rattle.expr_lang.specs.declared.bound.Bound.{Bound}
pub use Rattle.places.specs.declared.piece.Cell.{Cell}
pub use Rattle.view_commands.specs.declared.change.ChangeFault.{ChangeFault}
pub use Rattle.view_commands.specs.Changes.{Changed, Ends, HasRows, left_at, row_of, all_left, front_left, kernel_left, updated_front}
pub use Rattle.worlds.specs.Prelude.{Did, Done, done_to, tells, telling, reading, left_as, Told, Entry, ◌>>=◌, Tested, LeftOf, refused_if, ok_or, some_or, refused_by, Question, asked, advise_fault, best_words, cost_line, small, all_runs, bound_set, bound_sets, each_once, leaves_of, text_of_leaf, bound, bound_filter, leaf_of, fit_cuts, shared, memory_text, fit_kernel, number_text, inside, windowed, kernel_outcome, kernel_row_fault, form_of, update_fault, fit_stencil, room_beside, stencil_rounds}
pub use Rattle.layout_io.specs.Prelude.{Gathers, Gathers-start, Wrote, Stopped, flat_map_push, Writes-err, Stopped-flat_map, Stopped-second, Wrote-append, decimal-digits_text, digits_text}
pub use Rattle.command_checks.specs.GivesLaws.{GivesUp-then, goes_then}
pub use Rattle.instrument.specs.Counters.{LeafCounts, HeatCounts}
pub use Rattle.places.specs.declared.piece.Hold.{Hold}
unfoldable pub use Rattle.std.specs.List.{IsDistinct}
pub use Rattle.blob_file.specs.Files.{IsShort, record_text, view_text, file_of}
pub use Rattle.expr_lang.specs.Terms.{Term as LeafTerm}
pub use Rattle.record_dim.specs.declared.leaf_type.LeafType.{LeafType}
pub use Rattle.line_grammar.specs.declared.line.PassText.{PassText}
pub use Rattle.record_dim.specs.declared.path.PathStep.{PathStep}
pub use Rattle.actor_steps.specs.declared.place.Place.{Place}
pub use Rattle.extents.specs.declared.window.Span.{Span}
pub use Rattle.line_grammar.specs.declared.line.TermText.{TermText}
pub use Rattle.line_grammar.specs.declared.token.Token.{Token}
pub use Rattle.subviews.specs.SubViews.{WindowOf, sub_table, sub_reads}
pub use Rattle.blob_file.specs.Saving.{header_of, blobs_of}
pub use Rattle.instrument.specs.BlobTexts.{bytes_of, bytes_text}
pub use Rattle.instrument.specs.BlobTextsLaws.{bytes_of_bits}
unfoldable pub use Rattle.line_writer.specs.Texts.{canonical}
pub use Rattle.instrument.specs.CounterTexts.{counts_text, heat_text, runs_text}
pub use Rattle.std.proofs.Math.Seq.{drop-cons}
pub use Rattle.view_commands.specs.Inner.Parts.{fault_of_kernel, fault_of_update, front_by, kind_fault, set_in, store_fault, store_told, updated_by}
pub use Rattle.map_any.specs.BitRuns.{goes_on, joined_run, run_owner, runs_from}
pub use Rattle.extents.specs.IndicesLaws.{inside_of_entry, row_of_inside}
pub use Rattle.map_checks.specs.Prelude.{leaf_cells}
pub use Rattle.map_any.specs.AnyLaws.{length-leaf_cells}
pub use Rattle.blob_file.specs.HeaderLaws.{nameless_built}
pub use Rattle.linearize.specs.SlotsLaws.{place_in_is}
pub use Rattle.csv_rows.specs.Texts.{print_text}
unfoldable pub use Rattle.map_any.specs.BitRuns.{runs_of}
pub use Rattle.line_tokens.specs.Spelled.{spaced}
pub use Rattle.map_expr.specs.Terms.{term_of}
pub use Rattle.worlds.specs.Values.{store_fault as fault_text}
