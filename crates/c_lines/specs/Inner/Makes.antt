-- What the code has of two lines, as the model of scripts has it.
use Rattle.c_lines.specs.Imports.{ℕ, List, [], Option, ExtentWord, New, term_of, schema_fields, ◌>>=◌, made, resolved, Named, World, empty, added, Table}
use Rattle.c_lines.specs.Lines as lines
use Rattle.c_lines.specs.Answers.{Answer}
use Rattle.c_lines.specs.Told.{told}
use Rattle.c_lines.specs.declared.make.Asked.{Asked}
use Rattle.c_lines.specs.declared.make.Found.{Found}
use Rattle.c_lines.specs.declared.make.NamedRecord.{NamedRecord}
use Rattle.c_lines.specs.declared.make.NewView.{NewView}

-- a world with one record
abbrev pub world_of : NamedRecord → World
world_of named = record empty { records = added named.name (schema_fields named.schema) [] }

abbrev pub new_of : NewView → New
new_of new = record { name = new.name; schema = new.schema; words = new.words; wrap = new.wrap; term = term_of new.expr }

abbrev pub named_of : NamedRecord → Found → Named
named_of named found = record { fields = schema_fields named.schema; mode = found.mode; mapping = term_of found.expr }

abbrev pub asked_of : Asked → lines.Asked
asked_of asked = record { world = world_of asked.record; new = new_of asked.new }

-- the table of zeros where the words of a view stand for this: `?` among the extents stands for what so many rows leave
abbrev pub zeros_for : Named → List ExtentWord → Option ℕ → Answer Table
zeros_for whole words rows = do
  extents ← told (resolved words rows)
  told (made [] whole.mode whole.fields extents whole.mapping)

-- the table of a dataset
abbrev pub asked_filled : Asked → List ℕ → Answer Table
asked_filled asked csv = lines.dataset_filled (world_of asked.record) (new_of asked.new) csv
