-- The values of one leaf, row after row.
use Rattle.std.specs.Prelude.{ℕ, zero, suc, ◌+◌, ◌<◌, ◌≤◌, ℤ, pos, List, [], ◌∷◌, map, slice_index_or, slice_set, Option, Some, None, Result, Ok, Err}
use Rattle.views.specs.Imports.{range_with_len, option_or, width_of}
use Rattle.views.specs.Stores.{StoreAnswer}
use Rattle.views.specs.Tables.{Table, leaf_count_of, leaf_type_of}
use Rattle.views.specs.Tallies.{Access, Read, Write}
use Rattle.views.specs.declared.fault.LaneFault.{LaneFault}
use Rattle.views.specs.declared.fault.StoreFault.{StoreFault}

-- the value of a leaf in a row, and its values in all rows
abbrev pub in_leaf : ℕ → List ℤ → ℤ
in_leaf leaf row = slice_index_or row leaf (pos 0)

abbrev pub column : ℕ → List (List ℤ) → List ℤ
column leaf rows = map (in_leaf leaf) rows

-- a leaf of a table, of at most 32 bits
pub record IsNarrowLeaf (table : Table) (leaf : ℕ) : Type 0 where
  pub inside : leaf < leaf_count_of table
  pub narrow : width_of (leaf_type_of table leaf) ≤ 32

-- a read, and a write, of a leaf in each of so many rows from one on
abbrev pub column_reads : ℕ → ℕ → ℕ → List Access
column_reads leaf row count = map (λ at. Read at leaf) (range_with_len row count)

abbrev pub column_writes : ℕ → ℕ → ℕ → List Access
column_writes leaf row count = map (λ at. Write at leaf) (range_with_len row count)

-- the rows in which a leaf has these values, from one row on
abbrev pub with_column : ℕ → ℕ → List ℤ → List (List ℤ) → List (List ℤ)
with_column leaf (suc row) values [] = []
with_column leaf (suc row) values (numbers ∷ rows) = numbers ∷ with_column leaf row values rows
with_column leaf zero [] rows = rows
with_column leaf zero (value ∷ values) [] = []
with_column leaf zero (value ∷ values) (numbers ∷ rows) = slice_set numbers leaf value ∷ with_column leaf zero values rows

-- the fault of a value in this lane
abbrev pub lane_fault : ℕ → Result ℤ StoreFault → Option LaneFault
lane_fault lane (Ok kept) = None
lane_fault lane (Err fault) = Some (record { lane = lane; fault = fault })

-- the fault of the first of these values, whose lanes begin with this one, that a leaf does not take
abbrev pub first_lane_fault : StoreAnswer → ℕ → ℕ → List ℤ → Option LaneFault
first_lane_fault answer leaf lane [] = None
first_lane_fault answer leaf lane (value ∷ values) = option_or (lane_fault lane (answer leaf value)) (first_lane_fault answer leaf (lane + 1) values)
