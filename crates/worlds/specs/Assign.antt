-- `set V[..].path = ..` stores a value in one row.
use Rattle.std.specs.Prelude.{◌∷◌, ◌++◌}
use Rattle.worlds.specs.Imports.{ℕ, List, [], not, nat_eq, length, Ok, list_any, pointwise, slice_index_or, indices, place_in, Value, with_entry, PathStep, value_log, Write, Table}
use Rattle.worlds.specs.OnView.{Done, stores}
use Rattle.worlds.specs.Outcomes.{Tested, ◌>>=◌, refused_if}
use Rattle.worlds.specs.Names.{leaf_of, bound}
use Rattle.worlds.specs.Values.{value_on, storable}
use Rattle.worlds.specs.declared.fault.CommandFault.TheVariants.{BadIndex}

-- the index is one of those inside the extents
abbrev pub inside : List ℕ → List ℕ → Tested (Unit {0})
inside extents index = refused_if (not (list_any (λ other. pointwise nat_eq other index) (indices extents))) BadIndex

-- the value of an expression goes into a leaf of the row of an index
unfoldable pub assigned : Table → List ℕ → List PathStep → Value → Tested Done
assigned table index path value = do
  leaf ← leaf_of table.fields path
  term ← bound table.fields (length table.extents) value
  is_inside ← inside table.extents index
  let row = place_in (indices table.extents) index
  number ← value_on row (slice_index_or table.rows row []) index term
  kept ← storable table row leaf number
  Ok (stores (with_entry table.rows row leaf kept) (value_log row (slice_index_or table.rows row []) index term ++ Write row leaf ∷ []))
