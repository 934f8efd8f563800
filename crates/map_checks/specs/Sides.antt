-- The two sides of a split: which cells go to the first.
use Rattle.std.specs.Prelude.{Bool, not, List, map, filter}
use Rattle.map_checks.specs.Imports.{PathStep, Fields, is_under, Cell}

-- whether each cell's leaf is under the path, and the cells for which it is and is not
abbrev pub side_of : Fields → List PathStep → List Cell → List Bool
side_of fields path cells = map (λ cell. is_under fields path cell.leaf) cells

abbrev pub cells_under : Fields → List PathStep → List Cell → List Cell
cells_under fields path cells = filter (λ cell. is_under fields path cell.leaf) cells

abbrev pub cells_beside : Fields → List PathStep → List Cell → List Cell
cells_beside fields path cells = filter (λ cell. not (is_under fields path cell.leaf)) cells
