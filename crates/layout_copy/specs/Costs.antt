-- By which way a copy goes, and what it costs: a step for each block of at most 64 bytes, or for each read and each write.
use Rattle.std.specs.Prelude.{ℕ, ◌≡◌, ◌⊎◌, ◌*◌, List, length, map, sum_by, Option, Some, if◌then◌else◌}
use Rattle.layout_copy.specs.Imports.{range_with_len, indices, Order, slot_count, leaves, kinds_of, Fields, blocks, Term, layout_by, array_of, lanes_in, IsStrategy, Strategy, blob_steps, size_of, MayMove, is_cut, piece_count, move_steps, Table, leaf_types_of, table_holds}
use Rattle.map_any.specs.declared.strategy.Strategy.TheVariants as way

-- what the blobs of one table hold those of another with the same leaves may hold
abbrev pub MayMoveTo : Table → Table → Type 0
MayMoveTo source target = MayMove source.mode target.mode (leaf_types_of target) (table_holds target)

-- by which way a table is copied into another one: by the way of their expressions, but field by field where the source keeps low bits, the
-- target is strict, and some leaf is not stored in the sign and the width of its type
abbrev pub IsWay : Table → Table → Strategy → Type 0
IsWay source target strategy =
    (MayMoveTo source target × IsStrategy source.mapping target.mapping strategy) ⊎ ((MayMoveTo source target → ⊥) × (strategy ≡ way.Fields))

-- the bytes of each leaf
abbrev pub leaf_sizes : Fields → List ℕ
leaf_sizes fields = map size_of (kinds_of fields)

-- the blocks of a piece of so many slots, of leaves whose sizes in bytes these are
abbrev pub piece_steps : List ℕ → ℕ → ℕ
piece_steps sizes count = sum_by (λ size. blocks (count * size)) sizes

-- those of the piece that begins at a slot, if one does
abbrev pub piece_steps_at : ℕ → ℕ → ℕ → List ℕ → ℕ → ℕ
piece_steps_at slots one two sizes slot = if is_cut one two slot then piece_steps sizes (piece_count slots one two slot) else 0

-- those of the pieces that begin before a slot
unfoldable pub steps_before : ℕ → ℕ → ℕ → List ℕ → ℕ → ℕ
steps_before slots one two sizes slot = sum_by (piece_steps_at slots one two sizes) (range_with_len 0 slot)

-- those of all slots of two mappings that lay out arrays, cut at the lanes of each; where one lays out none, a read and a write of each leaf
abbrev pub slot_run_steps : Option (Order × Option ℕ) → Option (Order × Option ℕ) → List ℕ → List ℕ → ℕ
slot_run_steps (Some one) (Some two) extents sizes =
    let slots = slot_count one.0 extents in steps_before slots (lanes_in one.1 slots) (lanes_in two.1 slots) sizes slots
slot_run_steps _ _ extents sizes = 2 * (length (indices extents) * length sizes)

-- those of so many slots from one on, leaf after leaf
abbrev pub round_steps : Option (Order × Option ℕ) → Option (Order × Option ℕ) → List ℕ → List ℕ → ℕ → ℕ → ℕ
round_steps one two extents sizes slot count = sum_by (λ size. move_steps one two extents size slot count) sizes

-- the most steps of a copy from a view of one expression to one of another, over these fields and extents: by whole blobs, by runs, or by a
-- read and a write of each leaf of each row
abbrev pub copy_cost : Strategy → Term → Term → Fields → List ℕ → ℕ
copy_cost way.Blobs one two fields extents = blob_steps (layout_by two extents fields)
copy_cost way.Runs one two fields extents = slot_run_steps (array_of one) (array_of two) extents (leaf_sizes fields)
copy_cost way.Fields one two fields extents = 2 * (length (indices extents) * length (leaves fields))
