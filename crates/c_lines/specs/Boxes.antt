-- Calls on the rows of a box: of a window with a low and a high bound for each extent, as `print V window [..]` has it.
use Rattle.std.specs.Prelude.{◌∷◌}
use Rattle.c_lines.specs.Imports.{ℕ, List, [], Span, rows_of, Table, ◌>>=◌, windowed}
use Rattle.c_lines.specs.Answers.{Answer, answer_map, given_or}
use Rattle.c_lines.specs.Told.{told}

-- from each low bound up to, and without, the high one beside it
abbrev pub spans_of : List ℕ → List ℕ → List Span
spans_of (low ∷ lows) (high ∷ highs) = record { from = low; end = high } ∷ spans_of lows highs
spans_of lows highs = []

-- the rows of a box, in order
abbrev pub box_rows : List ℕ → List ℕ → Table → Answer (List ℕ)
box_rows low high table = answer_map rows_of (told (windowed table.extents (spans_of low high)))

-- what a call on a list of rows answers on those of a box
abbrev pub on_box : {A : Type 0} → List ℕ → List ℕ → (List ℕ → Table → Answer A) → Table → Answer A
on_box low high call table = box_rows low high table >>= (λ rows. call rows table)

-- and the table after it
abbrev pub after_box : List ℕ → List ℕ → (List ℕ → Table → Table) → Table → Table
after_box low high after table = given_or table (answer_map (λ rows. after rows table) (box_rows low high table))
