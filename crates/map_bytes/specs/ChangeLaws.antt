-- Cells that are stored as other types: as many as before.
use Rattle.std.specs.Prelude.{◌≡◌, List, length, ◌==◌, if◌then◌else◌}
use Rattle.map_bytes.specs.Imports.{◌∙◌, length-map, LeafType, Cell, Hold, kind_number}
use Rattle.map_bytes.specs.Cells.{changed}

pub length-changed : (from to : LeafType) (cells : List Cell) → length (changed from to cells) ≡ length cells
length-changed from to cells = length-map cells (λ (cell : Cell). let c : Cell = record { leaf = cell.leaf; kind = if kind_number cell.kind == kind_number from then to else cell.kind } in c)

-- each cell has a hold, where each changed one has
pub changed_holds : (inner : List Cell) (holds : List Hold) (cells : List Cell) → length inner ≡ length cells → length holds ≡ length inner
    → length holds ≡ length cells
changed_holds inner holds cells each held = held ∙ each
