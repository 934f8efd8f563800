-- The lemmas of this crate that answers cite.
pub use Rattle.blob_file.proofs.Imports.{arith, ◌<◌, length, blob_lengths, rules, ◌≡◌, ◌≤◌, ◌∙◌, ℕ, List, [], true, false, get_or, sym, ap, cases_lt, ext_get_or, get_or_default, owners_of, blobs_of, to_z, of_z, subst, int_le, and_parts, and_from, to_z-of_z, IsDeclared, between_true, passed, common_steps, ◌+◌, ℤ, pos, is_ok, Ok, Err, Result, refl, w128, entry, told_same, length-with_column, run_length, kept_rows, without_number, Table, answer_of, kept_of, StoreFault, value_more, nothing_stored, kept_run, raw_in, header_of, Contents, map, get_or_from_slice_get, LeafType, Truth, raised, run_steps, leaf_type_of, leaf_types_of, IsTakenLeaf, ◌*◌, ⊎_elim, inl, inr, take, drop, ◌⊎◌, length-drop, length-take-le, indices, AreRowsMoved, CountsNothing, run_more, HasShape, leaf_count_of, table_holds, after_stores, Write, all_accesses, run_writes, AreTaken, length-append, column_writes, with_column, leaf_moved, length-map, is_signed, IsIn, Leaf, leaves, IsLaidOut, Cell, Hold, kinds_are, hold_widths, hold_at, low_64, raised_low, kind_at, Some, tree_of, bytes_to_line_end, sum_by, Owner, joined, cut, with_blobs, AreRows, image_bytes, None, ExtentWord, bad_shape, bad_extents, extent_of, schema_fields, owners_by, CanLie, with_header, header_in, Saved, header_at, with_body, opened, empty_table, IsRead, FileFault, record_text, two_lines, view_text, IsErr, Puts-loop_err, Puts-loop_ok, ◌++◌, Wrote}
pub use Rattle.blob_file.proofs.Blobs.{none_cut, room, one_cut, AreCut}
pub use Rattle.blob_file.proofs.ImageBits.{blob_saved, blob_count}
pub use Rattle.blob_file.proofs.Filled.{low_declares, raw_is, run_kept, kept_long, fitting_taken, fitting_kept, all_kept, run_logged, run_steps_more, leaf_logged, leaf_steps}
pub use Rattle.blob_file.proofs.Contents.{raw_range, rows_contents, same_rows}
pub use Rattle.blob_file.proofs.HeadReads.{no_second, no_view, other_size, header_found}
pub use Rattle.blob_file.proofs.Refused.{refused_on, on_ok, no_layout, no_length, refused, header_told, body_told}
pub use Rattle.blob_file.proofs.Cuts.{cut_joined, length-joined, total, total_bits}
pub use Rattle.blob_file.proofs.Fills.{body_is, refused_number, opened_view, other_view, steps_taken}
pub use Rattle.blob_file.proofs.OneFile.{lengths_of_image}
pub use Rattle.blob_file.proofs.Lawful.{lawful, paired}
pub use Rattle.blob_file.proofs.Told.{spelled_told, spelled_whole, spelled_other}
pub use Rattle.blob_file.proofs.Lies.{fit_by, shaped_by, ranged_by, can_by, none_by, same_owners}
pub use Rattle.blob_file.proofs.Opens.{read_is_file}
pub use Rattle.blob_file.proofs.SavedFile.{file_length, file_text}
pub use Rattle.blob_file.proofs.Puts.{large_put, large_stopped, part_more, has_put, block_written}
