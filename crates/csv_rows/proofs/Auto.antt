-- The lemmas that the search tries at goals with no answer of their own.
use Rattle.csv_rows.proofs.ColumnNames.{column_names}
use Rattle.csv_rows.proofs.Counts.{end_found, never_closed, no_end_found, opens_last, quote_found, quotes_closed}
use Rattle.csv_rows.proofs.CsvReads.{few_rows, read_one, same_at}
use Rattle.csv_rows.proofs.FirstLines.{behind_found, end_none, end_some, here_found, line_within, start_within}
use Rattle.csv_rows.proofs.Imports.{after_log-none, fields_of, is_ok, leaves, length-drop, nat_eq, option_map, slice_get, slice_split, to_z-of_z, told_kept}
use Rattle.csv_rows.proofs.Leaves.{leaves_read}
use Rattle.csv_rows.proofs.PlainLines.{no_rows, one_end, record_rows}
use Rattle.csv_rows.proofs.PrintedAgain.{view_again}
use Rattle.csv_rows.proofs.Tables.{header_refused, rows_loaded, rows_written}
use Rattle.std.proofs.lemmas.Grind.{common_steps}

pub ruleset steps = (common_steps, column_names, end_found, never_closed, no_end_found, opens_last, quote_found, quotes_closed, few_rows, read_one, same_at, behind_found, end_none, end_some, here_found, line_within, start_within, after_log-none, fields_of, is_ok, leaves, length-drop, nat_eq, option_map, slice_get, slice_split, to_z-of_z, told_kept, leaves_read, no_rows, one_end, record_rows, view_again, header_refused, rows_loaded, rows_written)
