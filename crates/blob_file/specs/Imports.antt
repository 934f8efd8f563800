-- What this crate takes of others.
unfoldable pub use Rattle.extents.specs.Indices.{indices}
pub use Rattle.extents.specs.Shapes.{HasRows, bad_extents, bad_shape, extent_of, is_rows}
pub use Rattle.extents.specs.declared.words.ExtentWord.{ExtentWord}
pub use Rattle.extents.specs.declared.words.ExtentWord.TheVariants.{Fixed, Rows}
pub use Rattle.instrument.specs.BlobTexts.{bytes_of}
pub use Rattle.layout_io.specs.Prelude.{Puts, Stopped, Writes, Wrote, joined}
pub use Rattle.line_grammar.specs.Prelude.{Define, New, Reads, Sentence, View, deepest, sentence_of}
pub use Rattle.line_grammar.specs.declared.version.Version.TheVariants.{Two}
unfoldable pub use Rattle.line_writer.specs.Texts.{canonical}
pub use Rattle.map_checks.specs.Prelude.{IsBuiltTerm, accepted, else_for, good_numbers, holds_by, kinds_are, layout_by, leaf_cells, length-holds, most_slots, not_full, term_laws}
pub use Rattle.map_expr.specs.Terms.{Aos, Aosoa, BitAos, BitSoa, Bytesplit, Byteswap, Change, Count, Count as Counted, Heat, Heat as Heated, Named, Soa, Split, Term, term_of}
pub use Rattle.map_expr.specs.declared.widths.FieldWidth.{FieldWidth}
pub use Rattle.piece_bits.specs.Prelude.{AreSized, HasShape, hold_at, kind_at, low_64, zeros}
pub use Rattle.piece_bits.specs.declared.mode.StoreMode.{StoreMode}
pub use Rattle.piece_bits.specs.declared.mode.StoreMode.TheVariants.{Strict, Wrap}
pub use Rattle.places.specs.Prelude.{IsImage, IsLaidOut, Owner, Pad, bit_held, bit_number, digit_lt, entry, image, owner_at, width_at}
pub use Rattle.record_dim.specs.Prelude.{Array, End, Fields, IsDeclared, IsIn, IsRecord, Leaf, Record, Single, Tree, begins_name, continues_name, has_names, is_name, is_signed, is_word, kinds_of}
pub use Rattle.record_dim.specs.Prelude.{leaves, lengths_below, lengths_of, names_of, record_fault, records_below, records_of, schema_fields, tree_of}
pub use Rattle.record_dim.specs.Std.{and_parts, false≢true, flat_map, list_all, pointwise, range_with_len}
pub use Rattle.record_dim.specs.declared.path.PathStep.{PathStep}
unfoldable pub use Rattle.schema_lang.specs.LineOf.{line_of}
pub use Rattle.schema_lang.specs.Parsing.{HasItsFields}
pub use Rattle.schema_lang.specs.declared.fault.LineFault.{LineFault}
pub use Rattle.schema_lang.specs.declared.fault.LineFault.TheVariants.{NoMemory, Syntax, TooDeep}
pub use Rattle.std.specs.List.{list_any}
pub use Rattle.views.specs.Prelude.{Access, AllStay, AreRowsMoved, CountsNothing, Fits, IsOverLimits, StoreAnswer, Table, Write, after_stores, all_accesses, answer_of, blob_lengths, column}
pub use Rattle.views.specs.Prelude.{column_writes, granules_for, kept_of, kept_rows, leaf_count_of, leaf_type_of, no_tally, owners_of, raised, raw_under, run_steps, store_answer, table_holds}
pub use Rattle.views.specs.Prelude.{table_under, with_column}
unfoldable pub use Rattle.views.specs.Prelude.{tallied}
