-- What other crates take of this one.
pub use Rattle.worlds.specs.Actors.{fit_cuts, memory_text, shared}
unfoldable pub use Rattle.worlds.specs.Actors.{updated_by_actors}
pub use Rattle.worlds.specs.Advise.{Question, advise_fault, asked, best_words, bound_pass, cost_line, cost_words, fit_advice, leaves_at, leaves_under}
unfoldable pub use Rattle.worlds.specs.Advise.{advice_text, advise}
pub use Rattle.worlds.specs.Answers.{Breaks, Broke, Did, EndCause, Ending, EndsBy, Fronted, Refused, Refuses, Starves, StepCause, StepsTo, Unreadable, text_of}
pub use Rattle.worlds.specs.AnswersLaws.{steps_same}
pub use Rattle.worlds.specs.Assign.{inside}
unfoldable pub use Rattle.worlds.specs.Assign.{assigned}
pub use Rattle.worlds.specs.Copy.{all_read, are_alike, copied_by, laid_anew_by, same_fields, same_tree}
unfoldable pub use Rattle.worlds.specs.Copy.{copied, copy, laid_anew, relayout, with_rows}
pub use Rattle.worlds.specs.Define.{fields_in, fit}
unfoldable pub use Rattle.worlds.specs.Define.{define}
pub use Rattle.worlds.specs.FaultTexts.{fault_words}
unfoldable pub use Rattle.worlds.specs.FaultTexts.{fault_text, unread_text}
pub use Rattle.worlds.specs.Files.{bad_file, is_long}
unfoldable pub use Rattle.worlds.specs.Files.{open_view, opened_beside, opened_table, save}
pub use Rattle.worlds.specs.Fold.{after, fails_at, prepend, run_from}
pub use Rattle.worlds.specs.Inner.Steps.{ending_of}
pub use Rattle.worlds.specs.Kernel.{are_bounds, are_lanes, compare_of, fit_kernel, fit_leaf, fits, is_constant, is_factor, is_wide, kernel_outcome, kernel_row_fault, number_text}
unfoldable pub use Rattle.worlds.specs.Kernel.{kernel_run}
pub use Rattle.worlds.specs.Lines.{ended_lines, is_line_end, lines_in, without_cr}
pub use Rattle.worlds.specs.Load.{filled, filled_by, loaded_by, read, there}
unfoldable pub use Rattle.worlds.specs.Load.{load, loaded, loaded_table}
unfoldable pub use Rattle.worlds.specs.Mapping.{mapping}
pub use Rattle.worlds.specs.Names.{bound, bound_filter, bound_set, bound_sets, each_once, leaf_of, leaves_of, nameless, text_of_leaf}
pub use Rattle.worlds.specs.OnView.{Changes, Done, OnView, Reads, Shows, Told, Work, content_of, does, done_to, left_as, reading, stores, telling, tells, with_table, worked}
unfoldable pub use Rattle.worlds.specs.OnView.{on_view}
pub use Rattle.worlds.specs.Outcome.{End, Faulted, Gives, IsText, Misused, Output}
pub use Rattle.worlds.specs.Outcomes.{CannotRead, Fault, Faults, Goes, Left, LeftOf, Outcome, Stop, Tested, Unread, each, free, known, ok_or, quiet, refused_by, refused_if, shows, some_or, sure}
pub use Rattle.worlds.specs.Outcomes.{◌>>=◌}
pub use Rattle.worlds.specs.Reduce.{column, form_of, reduced}
unfoldable pub use Rattle.worlds.specs.Reduce.{counting, reduction}
pub use Rattle.worlds.specs.RunAnswers.{Answers, HasCause, HasSinkCause, IsRun, ended_status}
pub use Rattle.worlds.specs.Show.{all_runs, image_of, showing, small}
unfoldable pub use Rattle.worlds.specs.Show.{bytes, counts, drop_view, heat, layout, print}
pub use Rattle.worlds.specs.Stencil.{all_reach, all_weigh, fit_stencil, fit_terms, room_beside, stencil_fault, stencil_rounds, weighted_term}
unfoldable pub use Rattle.worlds.specs.Stencil.{stencil_run}
pub use Rattle.worlds.specs.Step.{command, done_by, work_of}
unfoldable pub use Rattle.worlds.specs.Step.{step}
pub use Rattle.worlds.specs.Tables.{blob_bits, live_bits, made, mode_by, resolved, room, shaped, zeros_of}
unfoldable pub use Rattle.worlds.specs.Texts.{number_line}
pub use Rattle.worlds.specs.Update.{kind_fault, update_fault}
unfoldable pub use Rattle.worlds.specs.Update.{updated}
pub use Rattle.worlds.specs.Values.{storable, store_fault, value_on}
pub use Rattle.worlds.specs.View.{Named, named, new_table_by, with_view}
unfoldable pub use Rattle.worlds.specs.View.{new_table, view}
pub use Rattle.worlds.specs.Windows.{are_inside, windowed}
unfoldable pub use Rattle.worlds.specs.Windows.{print_window}
pub use Rattle.worlds.specs.Wordings.{Wording, in_words, narrow_fault, row_fault}
pub use Rattle.worlds.specs.Worlds.{Entry, World, added, empty, found, removed, replaced, same_name}
