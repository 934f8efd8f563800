-- What the proofs of this crate speak of.
pub use Rattle.session_runs.specs.Imports.{File, Writes, Rose, Version, version_of, is_blank_line, World, empty, run_from, fault_text, Output, IsRun, ended_status, ending_of, Unreadable, EndsBy, EndCause, Outcome, Faults, Left, step, steps_same, lines_in, ScriptTooLong, BadVersion, LineTooLong, TooDeep, Status, CommandFault, version_numbered, Sentence, deepest, sentence_of, file_read_by, One, line_of, HasItsFields, StepFault, LineEnd, Stands, world_of}
pub use Rattle.record_dim.specs.Std.{◌≡◌, ℕ, suc, ◌+◌, ◌≤◌, ltb, Bool, true, false, List, [], ◌∷◌, length, drop, Option, None, Some, option_map, refl, sym, ap, subst, ◌∙◌, arith, add-one, zero-add, drop-drop, ◌<◌, inl, take, Result, Ok, Err, if◌then◌else◌, slice_set, ◌⊎◌, IsSome, nat_tests}
pub use Rattle.worlds.specs.declared.fault.CommandFault.{CommandFault as Fault}
pub use Rattle.line_grammar.specs.declared.line.Line.{Line}
pub use Rattle.session.specs.Answers.{IsFit, ending_of as fault_ending}
pub use Rattle.session.specs.Loads.{UnreadOnly}
pub use Rattle.worlds.specs.Answers.{Unread}
pub use Rattle.session.specs.LoadsLaws.{told_any}
pub use Rattle.session.specs.declared.session.Session.{Session}
pub use Rattle.session_runs.specs.Steps.{step_text, step_line, EndsAs, TellsFile}
pub use Rattle.session_runs.specs.Scripts.{version_line, run_headed, run_versioned, faulted, script_lines}
unfoldable pub use Rattle.session_runs.specs.Scripts.{run_form}
pub use Rattle.session_runs.specs.BlankLaws.{passes_blanks}
pub use Rattle.session_runs.specs.HeadLaws.{one_later, by_first, long_first, blank_first, said_first}
pub use Rattle.session_runs.specs.RunLaws.{run_of_same, same_runs}
