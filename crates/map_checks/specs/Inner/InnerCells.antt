-- One cell that a mapping hands to the one inside it.
use Rattle.std.specs.Prelude.{◌==◌, if◌then◌else◌}
use Rattle.map_checks.specs.Imports.{LeafType, Cell, kind_number}

-- a cell of the type `from` as one of the type `to`, any other as it is
abbrev pub changed_cell : LeafType → LeafType → Cell → Cell
changed_cell from to cell = record { leaf = cell.leaf; kind = if kind_number cell.kind == kind_number from then to else cell.kind }
