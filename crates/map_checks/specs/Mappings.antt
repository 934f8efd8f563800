-- What an expression means over the leaves of a schema and the extents of an array: the layout by rows, and how each leaf is stored.
use Rattle.std.specs.Prelude.{ℕ, ◌≡◌, ⊤, max, Bool, true, false, ◌||◌, List, [], map, None, Result, Ok, Err}
use Rattle.map_checks.specs.Imports.{enumerate_from, LeafType, Fields, kinds_of, row_at, slot_count, Order, Owner, aosoa, bit_aos, bit_soa, in_rows, split, byteswap, bytesplit, widths_of, widths_in, full_holds, narrow_holds, IsTooBig, aos_layout, soa_layout, Cell, Hold, Term, Aos, Soa, Aosoa, BitAos, BitSoa, Split, Byteswap, Bytesplit, Change, Count, Heat, Named, checked, bad_lanes, bad_widths, bad_granule, FieldWidth, BadMapping, Side, Field, NotFull, byte_cells_of, changed, differ, merged, is_one_sided}
use Rattle.map_checks.specs.Sides.{side_of, cells_under, cells_beside}
use Rattle.map_checks.specs.Widths.{cell_widths, has_empty}
use Rattle.map_checks.specs.declared.fault.MakeMap.{MakeMap}
use Rattle.map_checks.specs.declared.fault.MakeMap.TheVariants.{Bad, TooBig, NoMemory}

-- the leaves as cells: each with its number and its type
abbrev pub leaf_cells : List LeafType → List Cell
leaf_cells kinds = map (λ e. record { leaf = e.0; kind = e.1 }) (enumerate_from 0 kinds)

-- the nodes that are built
abbrev pub IsBuiltTerm : Term → Type 0
IsBuiltTerm (Aos form order) = ⊤
IsBuiltTerm (Soa form order) = ⊤
IsBuiltTerm (Aosoa lanes order) = ⊤
IsBuiltTerm (BitAos width entries order) = ⊤
IsBuiltTerm (BitSoa width entries order) = ⊤
IsBuiltTerm (Split path first rest) = IsBuiltTerm first × IsBuiltTerm rest
IsBuiltTerm (Byteswap inner) = IsBuiltTerm inner
IsBuiltTerm (Bytesplit inner) = IsBuiltTerm inner
IsBuiltTerm (Change from to inner) = IsBuiltTerm inner
IsBuiltTerm (Count inner) = IsBuiltTerm inner
IsBuiltTerm (Heat granule inner) = IsBuiltTerm inner
IsBuiltTerm _ = ⊥

-- every number in it is in its range
abbrev pub HasNumbers : Term → Type 0
HasNumbers (Aosoa lanes order) = bad_lanes lanes ≡ None
HasNumbers (BitAos width entries order) = bad_widths width entries ≡ None
HasNumbers (BitSoa width entries order) = bad_widths width entries ≡ None
HasNumbers (Split path first rest) = HasNumbers first × HasNumbers rest
HasNumbers (Byteswap inner) = HasNumbers inner
HasNumbers (Bytesplit inner) = HasNumbers inner
HasNumbers (Change from to inner) = HasNumbers inner
HasNumbers (Count inner) = HasNumbers inner
HasNumbers (Heat granule inner) = (bad_granule granule ≡ None) × HasNumbers inner
HasNumbers _ = ⊤

-- a layout over the slots of an order, by rows
abbrev pub ordered : Order → List ℕ → (ℕ → List (List Owner)) → List (List Owner)
ordered order extents layout = in_rows (row_at order extents) (layout (slot_count order extents))

-- each cell in at most its number of bits: that of the last entry that its leaf is under, or the first number
abbrev pub held_within : Fields → ℕ → List FieldWidth → List Cell → List Hold
held_within fields width entries cells = narrow_holds (cell_widths fields width entries cells) cells

-- the layout of an expression over cells, whose slots are rows; paths are those of the record's leaves
abbrev pub layout_of : Term → List ℕ → Fields → List Cell → List (List Owner)
layout_of (Aos form order) extents fields cells = ordered order extents (λ slots. aos_layout form slots (widths_of cells))
layout_of (Soa form order) extents fields cells = ordered order extents (λ slots. soa_layout form slots (widths_of cells))
layout_of (Aosoa lanes order) extents fields cells = ordered order extents (λ slots. aosoa lanes slots (widths_of cells))
layout_of (BitAos width entries order) extents fields cells = ordered order extents (λ slots. bit_aos slots (widths_in (held_within fields width entries cells)))
layout_of (BitSoa width entries order) extents fields cells = ordered order extents (λ slots. bit_soa slots (widths_in (held_within fields width entries cells)))
layout_of (Split path first rest) extents fields cells =
    split (side_of fields path cells) (layout_of first extents fields (cells_under fields path cells)) (layout_of rest extents fields (cells_beside fields path cells))
layout_of (Byteswap inner) extents fields cells = byteswap (widths_of cells) (layout_of inner extents fields cells)
layout_of (Bytesplit inner) extents fields cells = bytesplit (widths_of cells) (layout_of inner extents fields (byte_cells_of cells))
layout_of (Change from to inner) extents fields cells = layout_of inner extents fields (changed from to cells)
layout_of (Count inner) extents fields cells = layout_of inner extents fields cells
layout_of (Heat granule inner) extents fields cells = layout_of inner extents fields cells
layout_of (Named name) extents fields cells = []

-- how each cell is stored
abbrev pub holds_of : Term → Fields → List Cell → List Hold
holds_of (BitAos width entries order) fields cells = held_within fields width entries cells
holds_of (BitSoa width entries order) fields cells = held_within fields width entries cells
holds_of (Split path first rest) fields cells =
    merged (side_of fields path cells) (holds_of first fields (cells_under fields path cells)) (holds_of rest fields (cells_beside fields path cells))
holds_of (Change from to inner) fields cells = holds_of inner fields (changed from to cells)
holds_of (Count inner) fields cells = holds_of inner fields cells
holds_of (Heat granule inner) fields cells = holds_of inner fields cells
holds_of _ fields cells = full_holds cells

-- the greatest number of slots of a base mapping in it
abbrev pub most_slots : Term → List ℕ → ℕ
most_slots (Aos form order) extents = slot_count order extents
most_slots (Soa form order) extents = slot_count order extents
most_slots (Aosoa lanes order) extents = slot_count order extents
most_slots (BitAos width entries order) extents = slot_count order extents
most_slots (BitSoa width entries order) extents = slot_count order extents
most_slots (Split path first rest) extents = max (most_slots first extents) (most_slots rest extents)
most_slots (Byteswap inner) extents = most_slots inner extents
most_slots (Bytesplit inner) extents = most_slots inner extents
most_slots (Change from to inner) extents = most_slots inner extents
most_slots (Count inner) extents = most_slots inner extents
most_slots (Heat granule inner) extents = most_slots inner extents
most_slots (Named name) extents = 0

-- a base mapping has more than 2^24 slots, or all blobs together have more than 2^28 bytes
abbrev pub IsTooBigFor : Term → List ℕ → Fields → List Cell → Type 0
IsTooBigFor term extents fields cells = IsTooBig (most_slots term extents) (layout_of term extents fields cells)

-- some split in it has all its cells on one side
abbrev pub bad_side : Term → Fields → List Cell → Bool
bad_side (Split path first rest) fields cells =
    is_one_sided (side_of fields path cells)
    || (bad_side first fields (cells_under fields path cells) || bad_side rest fields (cells_beside fields path cells))
bad_side (Byteswap inner) fields cells = bad_side inner fields cells
bad_side (Bytesplit inner) fields cells = bad_side inner fields (byte_cells_of cells)
bad_side (Change from to inner) fields cells = bad_side inner fields (changed from to cells)
bad_side (Count inner) fields cells = bad_side inner fields cells
bad_side (Heat granule inner) fields cells = bad_side inner fields cells
bad_side _ fields cells = false

-- some bit mapping in it says a width of a path that none of its cells is under
abbrev pub bad_field : Term → Fields → List Cell → Bool
bad_field (BitAos width entries order) fields cells = has_empty fields cells entries
bad_field (BitSoa width entries order) fields cells = has_empty fields cells entries
bad_field (Split path first rest) fields cells = bad_field first fields (cells_under fields path cells) || bad_field rest fields (cells_beside fields path cells)
bad_field (Byteswap inner) fields cells = bad_field inner fields cells
bad_field (Bytesplit inner) fields cells = bad_field inner fields (byte_cells_of cells)
bad_field (Change from to inner) fields cells = bad_field inner fields (changed from to cells)
bad_field (Count inner) fields cells = bad_field inner fields cells
bad_field (Heat granule inner) fields cells = bad_field inner fields cells
bad_field _ fields cells = false

-- some part of it under byteswap or bytesplit stores a cell in another sign or width than the cell's type has
abbrev pub not_full : Term → Fields → List Cell → Bool
not_full (Split path first rest) fields cells = not_full first fields (cells_under fields path cells) || not_full rest fields (cells_beside fields path cells)
not_full (Byteswap inner) fields cells = differ (holds_of inner fields cells) (full_holds cells) || not_full inner fields cells
not_full (Bytesplit inner) fields cells = differ (holds_of inner fields (byte_cells_of cells)) (full_holds (byte_cells_of cells)) || not_full inner fields (byte_cells_of cells)
not_full (Change from to inner) fields cells = not_full inner fields (changed from to cells)
not_full (Count inner) fields cells = not_full inner fields cells
not_full (Heat granule inner) fields cells = not_full inner fields cells
not_full _ fields cells = false

-- a cause that counts where it holds and no earlier one does
abbrev pub else_for : BadMapping → Bool → Result Unit BadMapping → Result Unit BadMapping
else_for bad holds (Err earlier) = Err earlier
else_for bad true (Ok x) = Err bad
else_for bad false (Ok x) = Ok x

-- the first of the causes: those of the expression alone, then a split with an empty side, then a width that is said of no cell, then a part
-- that is not full
abbrev pub accepted : Term → Fields → List Cell → Result Unit BadMapping
accepted term fields cells =
    else_for NotFull (not_full term fields cells) (else_for Field (bad_field term fields cells) (else_for Side (bad_side term fields cells) (checked term)))

-- an answer that is no mapping: the expression is refused so, or is accepted and over a limit; want of memory is free
abbrev pub IsRefusal : Term → List ℕ → Fields → List Cell → MakeMap → Type 0
IsRefusal term extents fields cells (Bad bad) = accepted term fields cells ≡ Err bad
IsRefusal term extents fields cells TooBig = (accepted term fields cells ≡ Ok tt) × IsTooBigFor term extents fields cells
IsRefusal term extents fields cells NoMemory = ⊤

-- the layout of a mapping of all leaves of a record, and how each leaf is stored
abbrev pub layout_by : Term → List ℕ → Fields → List (List Owner)
layout_by term extents fields = layout_of term extents fields (leaf_cells (kinds_of fields))

abbrev pub holds_by : Term → Fields → List Hold
holds_by term fields = holds_of term fields (leaf_cells (kinds_of fields))
