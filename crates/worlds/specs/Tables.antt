-- New tables, and what refuses them.
use Rattle.std.specs.Prelude.{◌+◌, ◌*◌, ◌^◌}
use Rattle.worlds.specs.Imports.{ℕ, List, length, sum_by, nat_lt, nat_le, Option, Ok, extents_for, bad_shape, bad_extents, ExtentWord, Fields, kinds_of, MapTerm, leaf_cells, most_slots, accepted, StoreMode, granules_for, Table, owners_of, empty_table, header_by}
pub use Rattle.blob_file.specs.Opened.{mode_by}
use Rattle.worlds.specs.Worlds.{Entry}
use Rattle.worlds.specs.Outcomes.{Tested, ◌>>=◌, refused_if, refused_by, ok_or}
use Rattle.worlds.specs.declared.fault.CommandFault.TheVariants.{TooManyViews, TooBig, BadExtents, BadMapping}

-- fewer than 64 views are live
abbrev pub room : List (Entry Table) → Tested (Unit {0})
room views = refused_if (nat_le 64 (length views)) TooManyViews

-- the words can be extents
abbrev pub shaped : List ExtentWord → Tested (Unit {0})
shaped words = refused_by BadExtents (bad_shape words)

-- the extents for the rows of a dataset, if there is one
abbrev pub resolved : List ExtentWord → Option ℕ → Tested (List ℕ)
resolved words rows = do
  fit ← refused_by BadExtents (bad_extents words rows)
  Ok (extents_for words rows)

-- the bits of the blobs of a table
abbrev pub blob_bits : Table → ℕ
blob_bits table = sum_by length (owners_of table)

-- of all live views together
abbrev pub live_bits : List (Entry Table) → ℕ
live_bits views = sum_by (λ entry. blob_bits entry.held) views

-- a table of zeros, to which there was no access
abbrev pub zeros_of : StoreMode → Fields → List ℕ → MapTerm → Table
zeros_of mode fields extents mapping = empty_table (header_by fields extents mode mapping)

-- a table of zeros beside these views, where its mapping is one and no limit is passed: the slots, the bytes of its blobs, the granules
-- that are counted, and the bytes of all live views
abbrev pub made : List (Entry Table) → StoreMode → Fields → List ℕ → MapTerm → Tested Table
made views mode fields extents mapping =
    let table = zeros_of mode fields extents mapping in do
      fit ← ok_or BadMapping (accepted mapping fields (leaf_cells (kinds_of fields)))
      slots ← refused_if (nat_lt (2 ^ 24) (most_slots mapping extents)) TooBig
      bytes ← refused_if (nat_lt (8 * 2 ^ 28) (blob_bits table)) TooBig
      granules ← refused_if (nat_lt (2 ^ 24) (granules_for mapping (owners_of table))) TooBig
      all ← refused_if (nat_lt (8 * 2 ^ 30) (live_bits views + blob_bits table)) TooBig
      Ok table
