-- What the proofs of this crate speak of.
pub use Rattle.worlds.specs.Imports.{first_text, step_text, path_text_of, PathStep}
pub use Rattle.record_dim.specs.Std.{◌≡◌, ℕ, ◌+◌, ◌-◌, ◌<◌, ⊎_elim, Bool, true, false, not, cond, List, [], ◌∷◌, length, take, drop, ap, ◌∙◌, sym, refl, arith, ◌≤◌, inl, inr, ◌++◌, Option, None, Some, Result, Ok, Err, subst, append_assoc, length-append, ◌^◌, get_or, rules, tests, IsErr, slice_split, onto_first, position_or_len, cases_Bool, take_rest, append-nil, take-append-le, slice_split_first, slice_split-cons_no, slice_split-cons_yes, nat_tests, ⊤, ◌⊎◌, codes}
pub use Rattle.std.proofs.Common.{flat_map}
pub use Rattle.layout_io.specs.Prelude.{with_bytes, Wrote, Writes, joined, Wrote-append, Stopped-second, with_bytes-append, Writes-last, take_past, Stopped-front, Writes-err, digits_text, decimal-digits_text, Gathers, Puts, HasPut, Gathers-start, Writes-puts_err, Puts-stop, Puts-stopped, Puts-append, Puts-second, Puts-loop_err, File}
pub use Rattle.record_dim.specs.declared.path.PathStep.TheVariants.{At}
pub use Rattle.layout_io.specs.declared.ends.Failed.{Failed}
pub use Rattle.worlds.specs.Lines.{lines_in, ended_lines, without_cr, is_line_end}
pub use Rattle.worlds.specs.Worlds.{World}
pub use Rattle.worlds.specs.Outcomes.{Outcome, Goes, Faults, CannotRead, Left, Fault as Refusal, Unread as NotRead}
pub use Rattle.worlds.specs.FaultTexts.{unread_text, fault_words}
unfoldable pub use Rattle.worlds.specs.FaultTexts.{fault_text}
pub use Rattle.worlds.specs.declared.fault.CommandFault.{CommandFault as Fault}
pub use Rattle.worlds.specs.Outcome.{Output, IsText, Gives, Unread}
pub use Rattle.worlds.specs.RunAnswers.{Answers, IsRun, ended_status}
pub use Rattle.worlds.specs.Fold.{run_from, after, prepend, fails_at}
pub use Rattle.worlds.specs.Answers.{Did, Refused, Unreadable, Broke, Fronted, text_of}
pub use Rattle.worlds.specs.declared.status.Status.{Status}
pub use Rattle.worlds.specs.declared.status.Status.TheVariants.{Done, CommandFault, SourceFault, SinkFault, NoMemory}
pub use Rattle.worlds.specs.Inner.Details.{detail_text}
pub use Rattle.std.proofs.lemmas.Grind.{common_steps}
