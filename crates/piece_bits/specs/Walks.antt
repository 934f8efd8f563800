-- How rows become slots.
use Rattle.std.specs.Prelude.{ℕ, ◌+◌, ◌*◌, ◌/◌, ◌%◌, Bool, true, false, [], ◌∷◌}
use Rattle.piece_bits.specs.Imports.{interleaved}
use Rattle.piece_bits.specs.declared.walk.Walk.{Walk}
use Rattle.piece_bits.specs.declared.walk.Walk.TheVariants as walk

-- a walk leads from every row to a slot
abbrev pub leads : Walk → Bool
leads walk.None = false
leads _ = true

-- it is by rows, in blocks of one row
abbrev pub walks_plain : Walk → Bool
walks_plain walk.Plain = true
walks_plain _ = false

-- it is by rows, in blocks of a power of two
abbrev pub walks_in_blocks : Walk → Bool
walks_in_blocks walk.Blocks = true
walks_in_blocks _ = false

-- the slot of a row
abbrev pub slot_by : Walk → ℕ → ℕ → ℕ → ℕ
slot_by walk.Columns lines columns row = row % columns * lines + row / columns
slot_by walk.Morton lines columns row = interleaved (row / columns ∷ row % columns ∷ [])
slot_by _ lines columns row = row
