-- A table that is laid out anew by a `relayout` line.
use Rattle.c_lines.specs.Imports.{ℕ, List, [], Ok, Err, Sentence, Relayout, Term, Table, laid_anew_by, nameless, ◌>>=◌, made}
use Rattle.c_lines.specs.Answers.{Answer}
use Rattle.c_lines.specs.declared.refusal.Refusal.TheVariants.{OtherLine}
use Rattle.c_lines.specs.declared.refusal.TextOf.TheVariants.{First}
use Rattle.c_lines.specs.Copies.{source_after, target_after, was_copied}
use Rattle.c_lines.specs.Lines.{line_answer}
use Rattle.c_lines.specs.Told.{in_numbers, told}

-- the mapping of a line
abbrev pub mapping_told : Sentence → Answer Term
mapping_told (Relayout name term) = Ok term
mapping_told _ = Err (OtherLine First)

-- the mapping of the text of a line; no other one has a name
abbrev pub whole_told : List ℕ → Answer Term
whole_told line = do
  sentence ← line_answer First line
  term ← mapping_told sentence
  told (nameless [] term)

-- a table of zeros like another one, under the mapping of a line
abbrev pub zeros_told : List ℕ → Table → Answer Table
zeros_told line table = do
  whole ← whole_told line
  told (made [] table.mode table.fields table.extents whole)

-- the table under the mapping of a line, beside no other
abbrev pub relaid : List ℕ → Table → Answer Table
relaid line table = do
  whole ← whole_told line
  laid_anew_by in_numbers [] table whole

-- what a copy into zeros with this answer leaves of a table: the zeros in its place, with its values, or the table itself
abbrev pub laid_left : Answer (Unit {0}) → Table → Table → Table
laid_left (Ok done) table zeros = target_after (Ok done) table zeros
laid_left (Err refused) table zeros = source_after (Err refused) table

-- the table after the call: where a value is not held, it was read up to that
abbrev pub left_anew : Answer Table → Table → Table
left_anew (Ok zeros) table = laid_left (was_copied table zeros) table zeros
left_anew (Err refused) table = table

-- what is left by the line
abbrev pub after_relaid : List ℕ → Table → Table
after_relaid line table = left_anew (zeros_told line table) table
