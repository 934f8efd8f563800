-- What this crate takes of others.
pub use Rattle.command_checks.specs.declared.fault.StepFault.{StepFault}
unfoldable pub use Rattle.csv.specs.Reading.{strip_bom}
pub use Rattle.layout_io.specs.Prelude.{File, Rose, Writes}
pub use Rattle.line_grammar.specs.Prelude.{Blank, Sentence, deepest, file_read_by, sentence_of, tokens_of, version_numbered}
unfoldable pub use Rattle.line_grammar.specs.Prelude.{line}
pub use Rattle.line_grammar.specs.declared.version.Version.{Version}
pub use Rattle.line_grammar.specs.declared.version.Version.TheVariants.{One}
pub use Rattle.line_tokens.specs.declared.spots.Spot.{Spot}
pub use Rattle.record_dim.specs.Std.{ap, arith, inl, inr, nat_tests, ⊎_elim, ◌∙◌}
pub use Rattle.schema_lang.specs.LineOf.{line_or_column, spots_in}
unfoldable pub use Rattle.schema_lang.specs.LineOf.{line_at, line_of}
pub use Rattle.schema_lang.specs.Parsing.{HasItsFields}
pub use Rattle.schema_lang.specs.VersionOf.{is_blank_line, version_of}
pub use Rattle.session.specs.Stands.{Stands, world_of}
pub use Rattle.worlds.specs.Outcome.{Unread}
pub use Rattle.worlds.specs.Prelude.{Answers, EndCause, EndsBy, Faulted, Faults, Gives, HasCause, IsRun, IsText, Left, Outcome, Output, StepCause, StepsTo, Unreadable, World, after, empty}
pub use Rattle.worlds.specs.Prelude.{ended_status, ending_of, fails_at, lines_in, quiet, run_from, steps_same, sure}
unfoldable pub use Rattle.worlds.specs.Prelude.{fault_text, step}
pub use Rattle.worlds.specs.declared.fault.CommandFault.TheVariants.{BadVersion, LineTooLong, ScriptTooLong, Syntax, TooDeep}
pub use Rattle.worlds.specs.declared.fold.LineEnd.{LineEnd}
pub use Rattle.worlds.specs.declared.status.Status.{Status}
pub use Rattle.worlds.specs.declared.status.Status.TheVariants.{CommandFault, Done, NoMemory, SinkFault, SourceFault, Usage}
