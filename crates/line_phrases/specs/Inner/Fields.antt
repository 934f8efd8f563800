-- Fields as they are read.
use Rattle.line_phrases.specs.Imports.{Box, box_value, ℕ, List, Global, Tree, tree_of}
use Rattle.record_dim.specs.declared.dim.Field.{Field}

-- the name and the tree of a field that was read
abbrev pub boxed_field : Box Field Global → List ℕ × Tree
boxed_field boxed = ((box_value boxed).name, tree_of (box_value boxed).dim)
