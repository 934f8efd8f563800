-- What the proofs of this crate speak of.
pub use Rattle.session.specs.Imports.{term_of, MapTerm, Value, Assignment, Mapping, Sentence, sentence_of, New, assignment_of, file_read_by, Setting, updated_of, setting_of, filter_term, IsSetOf, Term, bound_term, update_log, value_log, BadActors, TooBig, Unknown, BadIndex, Twice, NotCounted, StepFault, GivesUp, Gives, Fields, same_text, texts_of, leaves, CopyFault, CommandFault, view_of, mapping_of, ViewEntry, Strategy, copy_cost, IsWay, with_entry, FileFault, Line, RecordEntry, MappingEntry, Answers, IsLeft, left_with}
pub use Rattle.record_dim.specs.Std.{◌≡◌, ℕ, suc, ◌+◌, ◌/◌, ◌%◌, ◌^◌, ◌≤◌, Bool, true, false, ℤ, nat_le, List, [], ◌∷◌, length, get_or, set, map, Result, Ok, Err, refl, sym, ap, ◌∙◌, arith, ◌*◌, nat_lt, Option, Some, None, ◌-◌, ◌<◌, ◌++◌, take, drop, codes, option_map, append-nil, append_assoc, ◌⊎◌, ⊎_elim, inl, inr, zero, subst, nat_eq, All, add-one, rules, FitsSigned, tests, IsErr, pos, IsErrAnd, not, sum_by, slice_set, filter, IsSomeAnd, ◌||◌, IfOk, slice_index_or, and_parts, leb-true, false≢true, cases_Bool, cases_eq, nat_tests, length-map, length-set, take_all, length-drop, get_or_default, get_or-set_same, get_or-set_other, set-set, map-set, take-append-drop, map-append, take_more, take-map, enumerate_from, insert, remove, list_any, range_with_len, get_or-enumerate_from, length-enumerate_from, drop_of_length-le, get_or-remove_below, get_or-remove_above, length-remove, pointwise, nat_list_eq_equiv, nat_eq_equiv, length_all_zip, All-nil, All-cons, All-tail, All-append, All-get_or, All-push, option_copied, Bor, IsDistinct-push, length-le_from_distinct_below, w128, to_z-of_z}
pub use Rattle.std.proofs.Common.{flat_map}
pub use Rattle.std.specs.Prelude.{IsErrOf}
pub use Rattle.std.specs.List.{slice_get}
unfoldable pub use Rattle.std.specs.List.{IsDistinct}
pub use Rattle.std.proofs.Math.ListN.{get_or-map}
pub use Rattle.std.proofs.Math.Seq.{drop-cons}
pub use Rattle.actors.specs.ActorRuns.{Run, started_run, after_turns}
pub use Rattle.actor_steps.specs.Prelude.{State, moved, turned, AreCuts, actor_of, are_cuts, are_cuts-are, memory_of, written_by, team_start, job_of, fresh_of, Job, Micro, Fetch, Load, Store, Registers, stored, with_bits_of, value_kept_on, row_in, loaded, next, entries, schedule_of, idle_with, run_by, shared_byte}
pub use Rattle.actor_steps.specs.declared.place.Place.{Place}
pub use Rattle.places.specs.Prelude.{image, bit_held, IsLaidOut, Owner, Pad, Bit, owner_at, IsOwnerBelow}
pub use Rattle.instrument.specs.BlobTexts.{bytes_of, bytes_text}
pub use Rattle.views.specs.Prelude.{Table, owners_of, after_log, after_stores, leaf_count_of, IsTable, answer_of, kept_of, leaf_types_of, reads_in, writes_in, reads_first, Read, all_accesses, Access, all_touches, Write, Tally, after_log-append, tallied-append, tallied-none, logs_more, kept_rows, own_rows}
pub use Rattle.worlds.specs.Prelude.{fit_cuts, shared, memory_text, bound_filter, bound_sets, each_once, leaves_of, nameless, leaf_of, bound, bound_set, text_of_leaf, Done, done_to, tells, with_table, telling, left_as, reading, Told, Outcome, Goes, Faults, CannotRead, ◌>>=◌, refused_if, refused_by, ok_or, quiet, known, some_or, LeftOf, Left, shows, free, Tested, Fault, Unread, sure, small, all_runs, Question, asked, advise_fault, best_words, cost_line, Entry, World, replaced, same_name, found, all_read, in_words, narrow_fault, made, zeros_of, room, live_bits, Refused, Fronted, text_of, Did, StepsTo, StepCause, inside, storable, bad_file, steps_same, command, done_by, windowed, read, Named, named, with_view, view, number_text, number_line}
unfoldable pub use Rattle.worlds.specs.Prelude.{updated_by_actors, on_view, counts, heat, layout, drop_view, print, advise, advice_text, copy, copied, with_rows, laid_anew, relayout, assigned, save, opened_beside, opened_table, open_view, updated, step, print_window, loaded_table, load, stencil_run}
pub use Rattle.worlds.specs.declared.fault.BadActors.TheVariants.{Cuts, Turns}
pub use Rattle.advisor.specs.Advice.{Advised, advice, told_by}
pub use Rattle.advisor.specs.declared.advice.Best.{Best}
pub use Rattle.layout_io.specs.Prelude.{digits_text, flat_map_push, Wrote-nil, with_bytes-nil, Stopped-flat_map, Stopped-second, Writes-err, Wrote-append, File, file_named, IsMissing, HasFile, Wrote, Stopped, decimal-digits_text, Rose, Gathers, Gathers-start}
pub use Rattle.line_grammar.specs.declared.line.PassText.{PassText}
pub use Rattle.line_tokens.specs.Spelled.{spaced}
pub use Rattle.line_grammar.specs.declared.token.Token.{Token}
pub use Rattle.line_writer.specs.Canonical.{map_tokens}
pub use Rattle.line_writer.specs.Texts.{written, with_tokens_behind}
unfoldable pub use Rattle.line_writer.specs.Texts.{canonical}
pub use Rattle.command_checks.specs.GivesLaws.{GivesUp-then, goes_then}
pub use Rattle.layout_copy.specs.Copies.{AreAlike, IsCopied, refused_at}
pub use Rattle.layout_copy.specs.OwnLaws.{own_held}
pub use Rattle.worlds.specs.declared.fault.UnknownName.TheVariants.{Name}
pub use Rattle.command_checks.specs.Inner.Places.{IsFirst, IsAt}
pub use Rattle.command_checks.specs.AlikeLaws.{alike, not_alike}
pub use Rattle.command_checks.specs.PlacesLaws.{known_place, known_at, without_is}
pub use Rattle.extents.specs.Indices.{indices, IsInside}
pub use Rattle.extents.specs.IndicesLaws.{inside_of_entry, row_of_inside}
pub use Rattle.linearize.specs.Slots.{place_in}
pub use Rattle.record_dim.specs.declared.path.PathStep.{PathStep}
pub use Rattle.blob_file.specs.Opened.{IsRead, opened}
pub use Rattle.places.specs.declared.piece.Cell.{Cell}
pub use Rattle.places.specs.declared.piece.Hold.{Hold}
pub use Rattle.record_dim.specs.declared.leaf_type.LeafType.{LeafType}
pub use Rattle.map_any.specs.AnyLaws.{length-leaf_cells}
pub use Rattle.map_checks.specs.Prelude.{leaf_cells}
pub use Rattle.map_any.specs.BitRuns.{goes_on, joined_run, run_owner, runs_from}
unfoldable pub use Rattle.map_any.specs.BitRuns.{runs_of}
pub use Rattle.blob_file.specs.Files.{IsShort, record_text, view_text}
pub use Rattle.blob_file.specs.Saving.{header_of, blobs_of}
pub use Rattle.expr_lang.specs.declared.bound.Bound.{Bound}
pub use Rattle.row_updates.specs.declared.update.Assign.{Assign}
pub use Rattle.extents.specs.declared.window.Span.{Span}
pub use Rattle.line_grammar.specs.declared.line.TermText.{TermText}
pub use Rattle.subviews.specs.Stencils.{Stencil}
pub use Rattle.instrument.specs.Counters.{LeafCounts, HeatCounts, leaf_counts, heat_counts}
pub use Rattle.instrument.specs.CounterTexts.{counts_text, heat_text, runs_text}
pub use Rattle.csv_rows.specs.Texts.{print_text}
pub use Rattle.subviews.specs.SubViews.{WindowOf, sub_table, sub_reads}
pub use Rattle.command_checks.specs.Inner.Questions.{question_of}
pub use Rattle.blob_file.specs.HeaderLaws.{nameless_built}
pub use Rattle.linearize.specs.SlotsLaws.{place_in_is}
pub use Rattle.instrument.specs.BlobTextsLaws.{bytes_of_bits}
pub use Rattle.blobs.specs.Bits.{bits_of}
pub use Rattle.session.specs.Inner.Changes.{copied_at, made_like, zeros_like, TellsCopy}
pub use Rattle.session.specs.Bounds.{Pair, IsWithin, WithinCopy, WithinCost, WithinRelayout, paired}
unfoldable pub use Rattle.session.specs.Bounds.{copied_pair, laid_pair}
pub use Rattle.session.specs.Answers.{TookNone, ending_of}
pub use Rattle.session.specs.Inner.Opens.{file_fault, placed_table, with_room}
pub use Rattle.session.specs.Loads.{Loads, IsUnread, UnreadOnly, ToldFor, read_within, named_of, new_of, filled_table}
pub use Rattle.session.specs.Stands.{AreLeft, Stands, left_of, world_in, world_of}
pub use Rattle.session.specs.declared.session.Session.{Session}
pub use Rattle.session.specs.LoadsLaws.{no_file}
pub use Rattle.view_commands.specs.ExitsLaws.{tells_gives, starved, answers_quiet, goes_gives, gave_up}
