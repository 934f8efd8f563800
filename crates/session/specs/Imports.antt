-- What this crate takes of others.
pub use Rattle.blob_file.specs.declared.fault.FileFault.{FileFault}
pub use Rattle.command_checks.specs.Inner.Bases.{is_nameless}
pub use Rattle.command_checks.specs.Inner.Gives.{Gives, GivesUp}
pub use Rattle.command_checks.specs.SessionEntries.{mapping_of, record_of, view_of}
pub use Rattle.command_checks.specs.declared.entries.RecordEntry.{RecordEntry}
pub use Rattle.command_checks.specs.declared.entries.ViewEntry.{ViewEntry}
pub use Rattle.command_checks.specs.declared.fault.StepFault.{StepFault}
pub use Rattle.command_checks.specs.declared.mapping_entry.MappingEntry.{MappingEntry}
pub use Rattle.csv_rows.specs.Datasets.{csv_records, records_behind}
pub use Rattle.csv_rows.specs.declared.fault.RowFault.{RowFault}
pub use Rattle.expr_lang.specs.Prelude.{Term, bound_term}
unfoldable pub use Rattle.extents.specs.Indices.{indices}
pub use Rattle.extents.specs.Shapes.{IsShape}
pub use Rattle.extents.specs.declared.words.ExtentWord.{ExtentWord}
pub use Rattle.layout_copy.specs.Costs.{IsWay, copy_cost}
pub use Rattle.layout_copy.specs.declared.fault.CopyFault.{CopyFault}
pub use Rattle.layout_io.specs.Prelude.{File, Rose}
pub use Rattle.line_grammar.specs.Prelude.{Assignment, Mapping, New, Sentence, Value, assignment_of, file_read_by, sentence_of}
pub use Rattle.line_grammar.specs.declared.line.Line.{Line}
pub use Rattle.map_any.specs.declared.strategy.Strategy.{Strategy}
pub use Rattle.map_expr.specs.Checks.{checked}
pub use Rattle.map_expr.specs.Terms.{Term as MapTerm, term_of}
pub use Rattle.piece_bits.specs.Prelude.{with_entry}
pub use Rattle.record_dim.specs.Prelude.{Fields, IsRecord, leaves, same_text, schema_fields, texts_of, tree_of}
pub use Rattle.row_updates.specs.Logs.{rows_log, update_log, value_log}
pub use Rattle.row_updates.specs.Rows.{IsSetOf, Setting, filter_term, setting_of, updated_of, updated_rows}
pub use Rattle.view_commands.specs.Inner.Answers.{Answers, IsLeft, left_with}
pub use Rattle.view_commands.specs.Steps.{Within, kernel_steps}
pub use Rattle.views.specs.Prelude.{Read, Table, Write, after_log, after_stores, all_accesses, answer_of, kept_of, leaf_count_of}
pub use Rattle.worlds.specs.Prelude.{Breaks, CannotRead, Done, Ending, Entry, Fault, Faults, Goes, Left, LeftOf, Named, Outcome, Refuses, Starves, StepCause, StepsTo, Tested, Unread, World, all_read}
pub use Rattle.worlds.specs.Prelude.{are_alike, bad_file, blob_bits, done_by, empty, filled, fit, found, known, live_bits, made, named, nameless, narrow_fault, ok_or, read, refused_if, resolved}
pub use Rattle.worlds.specs.Prelude.{row_fault, same_name, storable, stores, sure, text_of_leaf, update_fault, value_on, with_view, zeros_of, ◌>>=◌}
unfoldable pub use Rattle.worlds.specs.Prelude.{copied, copy, define, drop_view, load, loaded_table, mapping, new_table, on_view, open_view, opened_table, relayout, step, view}
pub use Rattle.worlds.specs.declared.fault.CommandFault.{CommandFault}
pub use Rattle.worlds.specs.declared.fault.CommandFault.TheVariants.{BadActors, BadIndex, BadMapping, Mismatch, NotCounted, TooBig, Twice, Unknown}
