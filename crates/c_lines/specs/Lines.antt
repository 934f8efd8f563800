-- What the lines of a call describe: they are lines of the second version of the language, and mean what they mean in a script.
use Rattle.std.specs.Prelude.{if◌then◌else◌}
use Rattle.c_lines.specs.Imports.{ℕ, Bool, true, false, List, length, nat_lt, Result, Ok, Err, Sentence, New, Define, View, Load, deepest, Two, line_of, Table, define, loaded_by, ◌>>=◌, named, new_table_by, World, empty}
use Rattle.c_lines.specs.Answers.{Answer}
use Rattle.c_lines.specs.declared.refusal.Refusal.TheVariants.{LineTooLong, Syntax, TooDeep, OtherLine}
use Rattle.c_lines.specs.declared.refusal.TextOf.{TextOf}
use Rattle.c_lines.specs.declared.refusal.TextOf.TheVariants.{First, Second}
use Rattle.c_lines.specs.Told.{in_numbers, told}

-- the line that a text is
abbrev pub shallow : TextOf → Result Sentence ℕ → Answer Sentence
shallow text (Err column) = Err (Syntax text column)
shallow text (Ok sentence) = if nat_lt 32 (deepest sentence) then Err (TooDeep text) else Ok sentence

unfoldable pub line_answer : TextOf → List ℕ → Answer Sentence
line_answer text bytes = if nat_lt 4096 (length bytes) then Err (LineTooLong text) else shallow text (line_of Two bytes)

-- the world behind a `record` line
abbrev pub world_told : Sentence → Answer World
world_told (Define name tree) = do
  left ← told (define empty name tree)
  Ok left.held
world_told _ = Err (OtherLine First)

-- what a `view` line makes, or, where a dataset is loaded, a `load` line, whose file is not looked at
abbrev pub new_answer : Bool → Sentence → Answer New
new_answer false (View new) = Ok new
new_answer true (Load new file) = Ok new
new_answer loads _ = Err (OtherLine Second)

-- a world with a record, and what makes a view in it, of two lines
pub record Asked : Type 0 where
  pub world : World
  pub new : New

abbrev pub asked : Bool → List ℕ → List ℕ → Answer Asked
asked loads first second = do
  definition ← line_answer First first
  world ← world_told definition
  sentence ← line_answer Second second
  new ← new_answer loads sentence
  Ok (record { world = world; new = new })

-- the table of zeros that two lines describe
abbrev pub described : List ℕ → List ℕ → Answer Table
described first second = do
  what ← asked false first second
  new_table_by in_numbers what.world what.new

-- the table of a dataset for a view in a world
abbrev pub dataset_filled : World → New → List ℕ → Answer Table
dataset_filled world new csv = do
  whole ← told (named world new)
  loaded_by in_numbers world.views whole new.words csv

-- the table that two lines and a dataset describe
abbrev pub loaded : List ℕ → List ℕ → List ℕ → Answer Table
loaded first second csv = do
  what ← asked true first second
  dataset_filled what.world what.new csv
