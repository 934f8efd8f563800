-- What this crate takes of others.
pub use Rattle.actor_steps.specs.Prelude.{AreCuts, actor_of, are_cuts, next, schedule_of, shared_byte, written_by}
pub use Rattle.actors.specs.ActorRuns.{Run, after_turns, started_run, without_counts}
pub use Rattle.actors.specs.Updates.{IsUpdated}
pub use Rattle.blobs.specs.Bits.{bits_of}
pub use Rattle.command_checks.specs.Inner.Gives.{Gives, GivesUp}
pub use Rattle.command_checks.specs.Inner.Questions.{IsQuestion, question_of}
pub use Rattle.command_checks.specs.Inner.Stencils.{IsStencilOf, stencil_of}
pub use Rattle.command_checks.specs.SessionEntries.{mapping_of}
pub use Rattle.command_checks.specs.declared.fault.StepFault.{StepFault}
pub use Rattle.command_checks.specs.declared.fault.StepFault.TheVariants.{NoMemory}
pub use Rattle.expr_lang.specs.Prelude.{Term, bound_term, outcome_of, term_of}
pub use Rattle.expr_lang.specs.declared.fault.EvalFault.{EvalFault}
pub use Rattle.extents.specs.Indices.{IsInside}
unfoldable pub use Rattle.extents.specs.Indices.{indices}
pub use Rattle.lane_kernels.specs.Kernels.{kernel_cost, run_rows}
pub use Rattle.lane_kernels.specs.declared.fault.KernelFault.{KernelFault}
pub use Rattle.lane_kernels.specs.declared.kernel.Kernel.{Kernel}
pub use Rattle.layout_io.specs.Prelude.{Writes, Wrote-nil, text_of_part, with_bytes-nil}
unfoldable pub use Rattle.layout_io.specs.Prelude.{digits_text}
pub use Rattle.line_grammar.specs.Prelude.{Assignment, Mapping, Value, assignment_of}
pub use Rattle.line_grammar.specs.declared.line.KernelText.{KernelText}
pub use Rattle.line_writer.specs.Canonical.{map_tokens}
pub use Rattle.line_writer.specs.Texts.{with_tokens_behind, written}
pub use Rattle.linearize.specs.Slots.{place_in}
pub use Rattle.piece_bits.specs.Prelude.{with_entry}
pub use Rattle.places.specs.Prelude.{Bit, IsLaidOut, IsOwnerBelow, Owner, Pad, bit_held, image, owner_at}
pub use Rattle.record_dim.specs.Prelude.{Fields, is_name, leaves, same_text, texts_of}
pub use Rattle.record_dim.specs.Std.{ap, arith, sym, ◌∙◌}
pub use Rattle.row_updates.specs.Logs.{rows_log, update_log, value_log}
pub use Rattle.row_updates.specs.Rows.{IsBoundOver, IsSetOf, Setting, filter_term, setting_of, updated_of}
pub use Rattle.row_updates.specs.declared.fault.UpdateFault.{UpdateFault}
pub use Rattle.row_updates.specs.declared.fault.UpdateKind.{UpdateKind}
pub use Rattle.std.specs.List.{enumerate_from, list_any, slice_get}
pub use Rattle.subviews.specs.Stencils.{Stencil, stenciled}
pub use Rattle.subviews.specs.declared.fault.StencilFault.{StencilFault}
pub use Rattle.views.specs.Prelude.{Read, Table, Write, after_log, after_write, all_accesses, answer_of, kept_of, leaf_count_of, owners_of, reads_first, reads_in, without_number}
pub use Rattle.views.specs.declared.fault.StoreFault.{StoreFault}
pub use Rattle.worlds.specs.Prelude.{Broke, Did, Done, Fronted, LeftOf, Refused, Tested, advise_fault, all_runs, best_words, bound_filter, bound_set, bound_sets, cost_line, cost_words, done_to}
pub use Rattle.worlds.specs.Prelude.{each_once, fit_cuts, fit_kernel, fit_stencil, form_of, inside, leaves_of, memory_text, number_text, ok_or, reading, refused_by, refused_if, room_beside, shared}
pub use Rattle.worlds.specs.Prelude.{small, stencil_rounds, storable, stores, telling, tells, text_of, text_of_leaf, update_fault, value_on, ◌>>=◌}
unfoldable pub use Rattle.worlds.specs.Prelude.{advice_text, advise, assigned, bytes, counting, counts, heat, kernel_run, layout, number_line, print, print_window, reduction, save, stencil_run}
unfoldable pub use Rattle.worlds.specs.Prelude.{updated, updated_by_actors}
pub use Rattle.worlds.specs.declared.fault.BadActors.TheVariants.{Cuts, Turns}
pub use Rattle.worlds.specs.declared.fault.CommandFault.{CommandFault}
pub use Rattle.worlds.specs.declared.fault.CommandFault.TheVariants.{BadActors, BadIndex, NotCounted, TooBig, Twice}
