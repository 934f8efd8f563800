-- A table that is laid out anew in a script that has nothing but its view.
use Rattle.c_lines.specs.Imports.{ℕ, ℤ, List, [], Option, Relayout, Term, Table, number_text, nameless, Tested, ◌>>=◌, made}
use Rattle.c_lines.specs.Answers.{Answer}
use Rattle.c_lines.specs.Commands.{Does, alone, numbered}

-- zeros in its shape, under a mapping, beside it
abbrev pub zeros_beside : Term → Table → Tested Table
zeros_beside term table = do
  whole ← nameless [] term
  made (alone [] table).views table.mode table.fields table.extents whole

-- what the line does
abbrev pub RelaidAs : List ℕ → Term → Table → Answer (Option ℤ) → Table → Type 0
RelaidAs name term old answer new = Does number_text numbered (Relayout name term) old answer new
