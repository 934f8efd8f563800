-- What the proofs of this crate speak of.
pub use Rattle.record_dim.specs.Std.{◌≡◌, ℕ, ◌+◌, ◌<◌, ◌≤◌, List, [], ◌∷◌, length, get_or, sym, ap, refl, ◌∙◌, arith, ◌++◌, take, subst, Option, Result, Ok, Err, IsErr, ◌-◌, ◌*◌, ◌/◌, ◌%◌, Bool, true, false, nat_eq, nat_lt, nat_le, set, map, ⊎_elim, replicate, rules, ◌^◌, enumerate_from, get_or-enumerate_from, length-enumerate_from, append_assoc, length-map, get_or-map, get_or_read, map-set, length-set, get_or-set_same, get_or-set_other, ext_get_or, map_push, map_more, take_all, get_or_default, ◌&&◌, ◌||◌, not, if◌then◌else◌, eq-eqb, ne_eqb, le-leb, lt-leb, lt-ltb, le-ltb, and_left, and_right, cases_eq, cases_lt, list_any_more, div-add-mod', mul-add-div, mul-lt-mul_of_pos_left, div-lt_iff_lt-mul, mul_comm, fun_ext, get_or_from_slice_get, div_ceil, sum_by_more, sum_by-take-le, All-get_or, common_steps}
pub use Rattle.std.proofs.Common.{flat_map}
pub use Rattle.blobs.specs.Bits.{bits_of}
pub use Rattle.layout_io.specs.Prelude.{digits_text, Puts, HasPut, Puts-append, Puts-loop_err, Puts-loop_ok, Puts-stop, Writes-puts_err, Writes-puts, flat_map_push}
pub use Rattle.places.specs.declared.piece.Run.{Run}
pub use Rattle.places.specs.declared.piece.RunOwner.{RunOwner}
pub use Rattle.places.specs.declared.piece.RunOwner.TheVariants.{Pad}
pub use Rattle.places.specs.declared.piece.Piece.{Piece}
pub use Rattle.places.specs.Prelude.{is_in_granule, is_touched}
pub use Rattle.record_dim.specs.Prelude.{schema_fields, texts_of}
pub use Rattle.layout_io.specs.declared.ends.Failed.{Failed}
pub use Rattle.instrument.specs.BlobTexts.{bytes_of, line_end, byte_text}
unfoldable pub use Rattle.instrument.specs.BlobTexts.{bytes_text}
pub use Rattle.instrument.specs.BlobTextsLaws.{bytes_long, byte_is}
pub use Rattle.instrument.specs.CounterTexts.{fields_line, owner_fields, run_line, leaf_line, granule_line, blob_lines}
unfoldable pub use Rattle.instrument.specs.CounterTexts.{runs_text, counts_text, heat_text}
pub use Rattle.instrument.specs.Counters.{HeatCounts, raised, counted_times, warmed_times, heated_times, granules_of, warmed_blob, leaf_counts, granules_in, heat_counts, IsCountedPiece}
pub use Rattle.instrument.specs.RoundingLaws.{reaches, row_begin, rounded}
pub use Rattle.instrument.specs.Inner.Touching.{AreGranulesOf, warmed_at, heated_besides}
pub use Rattle.instrument.specs.WarmingLaws.{length-warmed_blob, length-warmed, get-warmed_blob, get-warmed, counted_kept, length-heated}
