-- What this crate takes of others.
pub use Rattle.extents.specs.Indices.{indices}
pub use Rattle.map_expr.specs.Terms.{uncounted}
pub use Rattle.places.specs.Prelude.{entry}
pub use Rattle.record_dim.specs.declared.leaf_type.LeafType.{LeafType}
pub use Rattle.record_dim.specs.Prelude.{IsDeclared, leaves, kinds_of, Fields, texts_of}
pub use Rattle.views.specs.Prelude.{kind_at, Table, answer_of, after_log, Access, StoreAnswer, kept_by, Read, Write, row_accesses, leaf_count_of, leaf_types_of}
pub use Rattle.views.specs.Prelude.{column_reads, column_writes, run_of, after_stores, without_number, leaf_type_of, after_read, after_write}
pub use Rattle.record_dim.specs.Std.{subst, arith, flat_map, range_with_len, position_or_len, list_all, int_eq, pointwise}
pub use Rattle.piece_bits.specs.Prelude.{with_entry}
pub use Rattle.views.specs.declared.fault.StoreFault.{StoreFault}
pub use Rattle.linearize.specs.Slots.{index_at}
pub use Rattle.extents.specs.declared.window.Span.{Span}
pub use Rattle.extents.specs.Windows.{rows_in, IsWindow}
pub use Rattle.csv_rows.specs.Texts.{comma_line, print_text}
pub use Rattle.layout_io.specs.Prelude.{decimal_text, Puts, Writes}
pub use Rattle.views.specs.Columns.{with_column as with_values}
