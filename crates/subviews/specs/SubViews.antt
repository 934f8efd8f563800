-- A window of a view, used as a view of its own.
use Rattle.std.specs.Prelude.{ℕ, ℤ, List, [], map, slice_index_or}
use Rattle.subviews.specs.Imports.{flat_map, Span, rows_in, Access, Read, row_accesses}

-- a window, as clauses see it: the extents of the whole array, and a span for each
abbrev pub WindowOf : Type 0
WindowOf = List ℕ × List Span

-- the rows of the view whose index the window holds, in their order
abbrev pub rows_of : WindowOf → List ℕ
rows_of window = rows_in window.0 window.1

-- the row of the view that is this row of a subview
abbrev pub outer_row : WindowOf → ℕ → ℕ
outer_row window row = slice_index_or (rows_of window) row 0

-- the table of a subview
abbrev pub sub_table : WindowOf → List (List ℤ) → List (List ℤ)
sub_table window rows = map (λ row. slice_index_or rows row []) (rows_of window)

-- one read of each of its entries
abbrev pub sub_reads : WindowOf → ℕ → List Access
sub_reads window leaves = flat_map (row_accesses Read leaves) (rows_of window)
