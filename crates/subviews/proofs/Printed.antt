-- The text of a subview, row by row.
use Rattle.subviews.proofs.Imports.{◌≡◌, ℕ, ◌<◌, ℤ, List, [], length, get_or, Contains, arith, ap, length-map, get_or-map, indices, Access, Table, IsTable, after_log, WindowOf, rows_of, outer_row, sub_table}
use Rattle.subviews.proofs.Ways.{row_inside}

-- a row of the subview
pub sub_row : (window : WindowOf) (rows : List (List ℤ)) (row : ℕ) → row < length (rows_of window) → get_or (sub_table window rows) row [] ≡ get_or rows (outer_row window row) []
sub_row window rows row small = get_or-map (λ (r : ℕ). get_or rows r []) (rows_of window) row 0 [] small

pub sub_count : (window : WindowOf) (rows : List (List ℤ)) → length (sub_table window rows) ≡ length (rows_of window)
sub_count window rows = length-map (rows_of window) (λ (r : ℕ). get_or rows r [])

-- a row of the window is one of the table, also after reads
pub row_below : (window : WindowOf) (old view : Table) (log : List Access) (row : ℕ) → window.0 ≡ old.extents → IsTable old → view ≡ after_log old log → Contains (rows_of window) row → row < length view.rows
row_below window old view log row same is read held =
    omega (arith, row_inside window row held, is.rows, ap (λ (e : List ℕ). length (indices e)) same, ap (λ (t : Table). length t.rows) read)
