-- The lines of a script.
use Rattle.std.specs.Prelude.{◌-◌, ◌==◌, ◌∷◌, slice_index_or, if◌then◌else◌}
use Rattle.worlds.specs.Imports.{ℕ, Bool, List, [], map, length, take, slice_split}

abbrev pub is_line_end : ℕ → Bool
is_line_end byte = byte == 10

-- without a CR at the end
abbrev pub without_cr : List ℕ → List ℕ
without_cr line = if slice_index_or line (length line - 1) 0 == 13 then take (length line - 1) line else line

-- what stands behind the last LF is a line where it has bytes
abbrev pub ended_lines : List (List ℕ) → List (List ℕ)
ended_lines [] = []
ended_lines ([] ∷ []) = []
ended_lines (line ∷ lines) = line ∷ ended_lines lines

-- the lines of these bytes, each without its end
abbrev pub lines_in : List ℕ → List (List ℕ)
lines_in bytes = map without_cr (ended_lines (slice_split is_line_end bytes))
