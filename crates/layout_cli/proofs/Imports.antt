-- What the proofs of this crate speak of.
pub use Rattle.record_dim.specs.Std.{◌≡◌, ℕ, ◌≤◌, ◌^◌, Bool, false, ltb, List, length, Option, None, Some, sym, ap, ◌∙◌, arith, Result, suc, ◌+◌, [], ◌∷◌, ◌++◌, Ok, Err, codes, nat_eq, refl, subst, true, inl, ⊎_elim, get_or, drop, lit≤, nat_lt, ◌<◌, ℤ, pos, neg_ℤ, ◌-ℤ◌, FitsSigned, ◌*◌, rules, tests, ◌-◌, ◌%◌, ◌==◌, map, take, append_assoc, append-nil, nat_le, bytes_eq, string_bytes, option_map, inr, if◌then◌else◌, ◌||◌, IfSome, IsSomeAnd, nat_tests, AllByRecursion, list_all, list_any, or_parts, slice_split, AllPass, range_with_len, signed_decimal, decimal, ints, to_z-of_z, decimal_by_steps_wide, parse-decimal, digits_value-decimal, list_all-append, slice_split_at, AllPass-from_list_all, result_unwrap_or, ParsesUnsigned, AllDigits, digits_value, bytes_eq-Decides, numerals_by_value, tells_digits, slice_index_or, ◌&&◌}
pub use Rattle.std.proofs.Common.{flat_map}
pub use Rattle.std.specs.Int.{w64}
pub use Rattle.layout_io.specs.Prelude.{File, file_named, HasFile, digits_text, decimal_text, Rose, signed_decimal-decimal_text, decimal-digits_text, with_bytes-nil}
pub use Rattle.line_grammar.specs.Prelude.{Sentence, deepest, New, Load, Blank, tokens_of, command_of, is_same, Is, Leaves, leaves, line_found}
pub use Rattle.line_grammar.specs.Sentences.{file_read_by as file_in}
pub use Rattle.line_grammar.specs.declared.version.Version.{Version}
pub use Rattle.schema_lang.specs.LineOf.{line_or_column, spots_in, spots_within, spots_behind}
unfoldable pub use Rattle.schema_lang.specs.LineOf.{line_at, line_of}
pub use Rattle.worlds.specs.Prelude.{World, empty, Outcome, Faults, Left, free, Tested, sure, quiet, run_from, fails_at, after, End, Output, Gives, IsText, Answers, IsRun, HasCause, HasSinkCause, named, with_view, read, there, room, is_line_end, without_cr, ended_lines, lines_in, ◌>>=◌}
pub use Rattle.worlds.specs.Outcomes.{Fault as Refusal, Unread as NotRead}
unfoldable pub use Rattle.worlds.specs.Prelude.{step, load, loaded_table, loaded, opened_beside, opened_table, open_view}
pub use Rattle.worlds.specs.declared.fault.CommandFault.TheVariants.{LineTooLong, TooDeep, ScriptTooLong}
pub use Rattle.equal_runs.specs.EqualRuns.{DoesLines, EqualRuns}
pub use Rattle.session_runs.specs.Steps.{step_text, step_line}
pub use Rattle.session_runs.specs.Scripts.{run_headed, run_versioned, faulted, script_lines, version_line, version_said, without_version}
unfoldable pub use Rattle.session_runs.specs.Scripts.{run_form}
pub use Rattle.session_runs.specs.Heads.{RunsUnversioned}
pub use Rattle.line_tokens.specs.Bytes.{is_hash}
pub use Rattle.line_tokens.specs.Next.{token_at, placed}
pub use Rattle.worlds.specs.Outcome.{Unread}
unfoldable pub use Rattle.line_grammar.specs.Prelude.{steps_at, actors, body, bracket_list, command_line, extent_word, fixed, flag, form_or_name, inside_aos, inside_form, later, line, listed, mapping, mapping_within, new, show_end, update_end}
pub use Rattle.map_expr.specs.Terms.{Aos, Count}
pub use Rattle.extents.specs.declared.words.ExtentWord.TheVariants.{Rows}
pub use Rattle.extents.specs.declared.order.Order.TheVariants.{Row}
pub use Rattle.places.specs.declared.forms.AosForm.TheVariants.{Packed}
pub use Rattle.line_grammar.specs.declared.version.Version.TheVariants.{One}
pub use Rattle.line_tokens.specs.declared.spots.Spot.{Spot}
pub use Rattle.line_grammar.specs.declared.token.Token.{Token}
pub use Rattle.worlds.specs.declared.status.Status.{Status}
pub use Rattle.worlds.specs.declared.status.Status.TheVariants.{Done, CommandFault, Usage, SourceFault, SinkFault, NoMemory}
pub use Rattle.session_runs.specs.HeadLaws.{said_first}
pub use mir.Val.{to_z, of_z}
pub use Rattle.line_grammar.specs.declared.line.Command.{Command}
pub use Rattle.session_runs.specs.RunLaws.{IsSame, run_of_same}
unfoldable pub use Rattle.csv.specs.Reading.{strip_bom}
pub use Rattle.session_runs.specs.BlankLaws.{passes_blanks}
pub use Rattle.layout_cli.specs.Run.{run_file, run_script, run, run_words, run_generated, script_name, gen_words}
pub use Rattle.layout_cli.specs.EqualScripts.{IsScript, EqualScripts}
pub use Rattle.layout_cli.specs.Generated.{generated_lines, generated_files, with_line_end, values_with_commas, row_text, generated_row}
unfoldable pub use Rattle.layout_cli.specs.Generated.{script_text, dataset_text}
pub use Rattle.layout_cli.specs.Numbers.{is_number_word, IsNumberWord}
unfoldable pub use Rattle.layout_cli.specs.Numbers.{generated_rows}
