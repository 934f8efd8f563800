-- The parts of a header as the code has them.
use Rattle.std.specs.Prelude.{ℕ, List, map, codes}
use Rattle.blob_file.specs.Imports.{extent_of, Tree, Fields, Record, End, tree_of, StoreMode, Term, term_of, New}
use Rattle.blob_file.specs.Files.{Header}
use Rattle.blob_file.specs.Opened.{mode_by}
use Rattle.blob_file.specs.declared.header.FileHeader.{FileHeader}
use Rattle.blob_file.specs.declared.header.ShownView.{ShownView}

-- the fields of a tree; only a record has any
abbrev pub fields_in : Tree → Fields
fields_in (Record fields) = fields
fields_in _ = End

-- a header of its parts
abbrev pub header_by : Fields → List ℕ → StoreMode → Term → Header
header_by fields extents mode mapping = record { fields = fields; extents = extents; mode = mode; mapping = mapping }

abbrev pub header_in : FileHeader → Header
header_in parts = header_by (fields_in (tree_of parts.dim)) (map (extent_of 0) parts.words) (mode_by parts.wrap) (term_of parts.expr)

-- what makes the view `V` over the record `R`, of the parts that its line says
abbrev pub new_in : ShownView → New
new_in shown = record { name = codes "V"; schema = codes "R"; words = shown.words; wrap = shown.wrap; term = term_of shown.expr }
