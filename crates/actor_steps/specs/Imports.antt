-- What this crate takes of others.
pub use Rattle.blobs.specs.Bits.{AreBytes, bit_in, bit_of}
pub use Rattle.blobs.specs.BytesLaws.{bit_of_byte}
pub use Rattle.expr_lang.specs.Prelude.{Binary, Entry, Index, Neg, Not, Number, Outcome, Term, after_reads, decided, is_true, no_read, outcome_of, ranged, result_of, then_from, truth, unless_decided}
pub use Rattle.expr_lang.specs.declared.fault.EvalFault.{EvalFault}
pub use Rattle.instrument.specs.BlobTexts.{bytes_of}
pub use Rattle.linearize.specs.Slots.{index_at}
pub use Rattle.piece_bits.specs.Prelude.{AreLaid, AreSized, HasShape, Stays, declared, declared_entry, declared_shape, declared_table, entry_is, held, hold_at, image_table, kept, kind_at, stays_kept}
pub use Rattle.piece_bits.specs.Prelude.{table_in, table_shape}
pub use Rattle.places.specs.Prelude.{Bit, IsBitOf, IsImage, IsLaidOut, Owner, Pad, bit_held, bit_number, bit_owned, decoded, digit, digit_lt, entry, image, number, number_bits, number_lt, number_same}
pub use Rattle.places.specs.Prelude.{owned_is, owner_at, width_at, written_bit}
pub use Rattle.places.specs.declared.piece.Hold.{Hold}
pub use Rattle.record_dim.specs.Prelude.{Leaf, leaves}
pub use Rattle.record_dim.specs.Std.{Any-from_list_any, and_from, and_parts, ap, arith, bit_at, bit_at-lt, bit_at-zero}
pub use Rattle.record_dim.specs.Std.{cases_Bool, cases_eq, cases_lt, cond-false, cond-true, cond_both, eq-eqb, eqb-true}
pub use Rattle.record_dim.specs.Std.{ext_get_or, flat_map, fun_ext, get_or-drop, get_or-map, get_or-map-range_with_len, get_or-range_with_len, get_or-replicate, get_or-set_other, get_or-set_same}
pub use Rattle.record_dim.specs.Std.{get_or-take, get_or_default, get_or_past, le-leb, leb-true, length-drop, length-map, length-map-range_with_len, length-range_with_len, length-replicate}
pub use Rattle.record_dim.specs.Std.{length-set, length-take, list_any, list_any-append, list_any_at, lt-leb, or_left, or_right}
pub use Rattle.record_dim.specs.Std.{range_with_len, map-append, set_past, subst, sym, true≢false, ⊎_elim, ◌∙◌}
pub use Rattle.record_dim.specs.declared.leaf_type.LeafType.{LeafType}
pub use Rattle.row_updates.specs.EachLaws.{each_at, each_length, parted}
pub use Rattle.row_updates.specs.Rows.{Setting, each, eval_kind, in_row, new_value, passes, store_kind, updated_of, updated_row, updated_rows, with_values, ◌>>=◌}
pub use Rattle.row_updates.specs.declared.fault.UpdateFault.{UpdateFault}
pub use Rattle.views.specs.Prelude.{IsTable, Keeping, StoreAnswer, Table, answer_of, answer_stays, blob_lengths, kept_by, kept_of, kept_or, leaf_count_of, leaf_types_of, owners_of, table_holds}
pub use Rattle.views.specs.declared.fault.StoreFault.{StoreFault}
