-- The slots of mappings that lay out arrays.
use Rattle.map_any.specs.Imports.{ℕ, List, Option, Order, slot_count, lanes_in}
use Rattle.map_any.specs.declared.arrays.ArraySlots.{ArraySlots}

-- how many there are over an array's extents, and how many a block has
abbrev pub slots_in : List ℕ → Order × Option ℕ → ArraySlots
slots_in extents array = let slots = slot_count array.0 extents in record { slots = slots; lanes = lanes_in array.1 slots }
