use Rattle.map_checks.proofs.Imports.{◌≡◌, ℕ, ◌≤◌, List, map, length, take, arith, take_all, schema_fields, hold_within, narrow_holds, Cell, Hold, narrow_each, width_at}
use Rattle.map_checks.proofs.holds.held_within.Goals as goal

all_held : (width : Cell → ℕ) (cells items : List Cell) (i : ℕ) (holds : List Hold) → items ≡ cells → length items ≤ i
    → holds ≡ map (λ (cell : Cell). hold_within (width cell) cell.kind) (take i cells) → holds ≡ narrow_holds (map width cells) cells
all_held width cells items i holds same past are = grind (arith, take_all, narrow_each)

pub returns : goal.returns
returns c = all_held (λ (cell : Cell). width_at (schema_fields c.args.schema.now) c.args.width c.args.fields.now cell.leaf) c.args.cells.now _ c.loop-cell.cell-index _
    c.as_slice-cell-items.ensures c.loop-cell-test.false c.loop-cell.invariant
