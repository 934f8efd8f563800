-- The lemmas that the search tries at goals with no answer of their own.
use Rattle.blob_file.proofs.Blobs.{all_cut, cut_sized, none_cut, one_cut, room}
use Rattle.blob_file.proofs.Contents.{same_rows, some_bits}
use Rattle.blob_file.proofs.Cuts.{cut_slices, no_cut}
use Rattle.blob_file.proofs.Filled.{cell_count, fitting_kept, fitting_taken, kept_long, low_declares}
use Rattle.blob_file.proofs.Fills.{opened_view, other_view, refused_number, steps_taken}
use Rattle.blob_file.proofs.HeadReads.{header_found, no_first, no_record, no_second, no_view, other_size, short_none}
use Rattle.blob_file.proofs.ImageBits.{blob_count, blob_saved}
use Rattle.blob_file.proofs.Imports.{Puts-append, Puts-loop_err, Puts-loop_ok, Puts-stop, Puts-stopped, Writes-puts, Writes-puts_err, after_log-none, and_from, and_parts, bad_extents, between_true, blobs_of, bytes_to_line_end, cases_lt, common_steps, drop, empty_table, ext_get_or, extent_of, four_bytes, get_or, get_or_default, get_or_from_slice_get, header_at, header_in, header_of, hold_at, image_bytes, indices, int_le, is_signed, joined, kept_run, kind_at, kinds_are, leaf_type_of, leaf_types_of, length, length-take-le, map, no_leaf_moved, nothing_stored, of_z, opened, owners_of, passed, raised, raw_in, record_text, run_length, run_steps, schema_fields, sum_by, table_holds, take_all, to_z, to_z-of_z, tree_of, two_lines, view_text, with_body, with_header}
use Rattle.blob_file.proofs.Lawful.{lawful, paired}
use Rattle.blob_file.proofs.Lies.{fit_by, none_by}
use Rattle.blob_file.proofs.Made.{no_open, refused_extents}
use Rattle.blob_file.proofs.OneFile.{one_file}
use Rattle.blob_file.proofs.Opens.{opens_files, read_is_file}
use Rattle.blob_file.proofs.Puts.{block_stopped, has_put, large_put, large_stopped, part_more}
use Rattle.blob_file.proofs.Refused.{body_told, header_told, no_header, no_layout, no_magic, refused, refused_on, starved}
use Rattle.blob_file.proofs.SavedFile.{file_length, file_text}
use Rattle.blob_file.proofs.Told.{refused_line, told_long}

pub ruleset steps = (all_cut, cut_sized, none_cut, one_cut, room, same_rows, some_bits, cut_slices, no_cut, cell_count, fitting_kept, fitting_taken, kept_long, low_declares, opened_view, other_view, refused_number, steps_taken, header_found, no_first, no_record, no_second, no_view, other_size, short_none, blob_count, blob_saved, Puts-append, Puts-loop_err, Puts-loop_ok, Puts-stop, Puts-stopped, Writes-puts, Writes-puts_err, after_log-none, and_from, and_parts, bad_extents, between_true, blobs_of, bytes_to_line_end, cases_lt, common_steps, drop, empty_table, ext_get_or, extent_of, four_bytes, get_or, get_or_default, get_or_from_slice_get, header_at, header_in, header_of, hold_at, image_bytes, indices, int_le, is_signed, joined, kept_run, kind_at, kinds_are, leaf_type_of, leaf_types_of, length, length-take-le, map, no_leaf_moved, nothing_stored, of_z, opened, owners_of, passed, raised, raw_in, record_text, run_length, run_steps, schema_fields, sum_by, table_holds, take_all, to_z, to_z-of_z, tree_of, two_lines, view_text, with_body, with_header, lawful, paired, fit_by, none_by, no_open, refused_extents, one_file, opens_files, read_is_file, block_stopped, has_put, large_put, large_stopped, part_more, body_told, header_told, no_header, no_layout, no_magic, refused, refused_on, starved, file_length, file_text, refused_line, told_long)
