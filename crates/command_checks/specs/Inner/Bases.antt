-- Mappings without names, and the rows that words ask for.
use Rattle.std.specs.Prelude.{Box, box_value, ℕ, nat_lt, count_by, List, Option, Some, unwrap_or, if◌then◌else◌}
use Rattle.command_checks.specs.Imports.{Global, is_rows, ExtentWord, MapExpr, MapTerm, Byteswap, Bytesplit, Change, Count, Heat, term_of}
pub use Rattle.blob_file.specs.Headers.{is_nameless}

-- the mapping expression in a box
abbrev pub boxed_term : Box MapExpr Global → MapTerm
boxed_term boxed = term_of (box_value boxed)

-- an expression with another one in place of the one that is in it
abbrev pub around : MapTerm → MapTerm → MapTerm
around (Byteswap inner) new = Byteswap new
around (Bytesplit inner) new = Bytesplit new
around (Change from to inner) new = Change from to new
around (Count inner) new = Count new
around (Heat granule inner) new = Heat granule new
around other new = new

-- the number of rows that is given to words: 0 for a `?` where none is given
abbrev pub rows_for : List ExtentWord → Option ℕ → Option ℕ
rows_for words rows = if nat_lt 0 (count_by is_rows words) then Some (unwrap_or rows 0) else rows
