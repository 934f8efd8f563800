-- Many rows of one leaf at once.
use Rattle.std.specs.Prelude.{ℕ, ◌+◌, ◌≡◌, ◌<◌, ◌≤◌, ℤ, pos, List, map, take, drop, nat_le, Option, Some, None, Result, Ok, Err, if◌then◌else◌}
use Rattle.views.specs.Imports.{cast_unsigned, div_ceil, width_of, IsDeclared, LeafType, U64, hold_at, entry}
use mir.Syntax.{w64}
use Rattle.views.specs.Columns.{column, column_writes, with_column, first_lane_fault}
use Rattle.views.specs.Stores.{Fits}
use Rattle.views.specs.Tables.{Table, leaf_type_of, table_holds, after_log, after_stores, answer_of, kept_of}
use Rattle.views.specs.Tallies.{Access}
use Rattle.views.specs.declared.fault.LaneFault.{LaneFault}

-- the values of a leaf in so many rows from one on
abbrev pub run_of : ℕ → ℕ → ℕ → Table → List ℤ
run_of leaf first count table = take count (drop first (column leaf table.rows))

-- how many rows of a leaf have at most 64 bytes of numbers, each of four bytes or, in a wider leaf, of eight
abbrev pub rows_a_step : LeafType → ℕ
rows_a_step kind = if nat_le (width_of kind) 32 then 16 else 8

-- the steps of so many rows: one for each 64 bytes, and one for the rest
abbrev pub run_steps : LeafType → ℕ → ℕ
run_steps kind rows = div_ceil rows (rows_a_step kind)

-- the answer of a store of values, given the first fault
abbrev pub told_lane : Option LaneFault → Result Unit LaneFault
told_lane None = Ok tt
told_lane (Some fault) = Err fault

-- how many of so many values are stored: those before the first that is not taken
abbrev pub stored_count : ℕ → Option LaneFault → ℕ
stored_count count None = count
stored_count count (Some fault) = fault.lane

-- the fault of the first of some values that a leaf does not take
abbrev pub run_fault : ℕ → List ℤ → Table → Option LaneFault
run_fault leaf values table = first_lane_fault (answer_of table) leaf 0 values

-- the table after the first so many values were stored in a leaf of the rows from one on
abbrev pub with_run : ℕ → ℕ → List ℤ → ℕ → Table → Table
with_run leaf first values count table =
    after_stores table (with_column leaf first (map (kept_of table leaf) (take count values)) table.rows) (column_writes leaf first count)

-- the value of a leaf of some type whose low 64 bits these are
abbrev pub raised : LeafType → ℤ → ℤ
raised U64 low = pos (cast_unsigned w64 low)
raised _ low = low

-- a leaf takes each value of its type as it is
abbrev pub TakesAll : Table → ℕ → Type 0
TakesAll table leaf = (value : ℤ) → IsDeclared (leaf_type_of table leaf) value → Fits (leaf_type_of table leaf) (hold_at (table_holds table) leaf) value

-- no access to a table is counted
abbrev pub CountsNothing : Table → Type 0
CountsNothing table = (log : List Access) → after_log table log ≡ table

-- in so many rows from one on the entries of the first so many leaves are those of another table, and the rows before them stand
pub record AreRowsMoved (done first count : ℕ) (source old new : List (List ℤ)) : Type 0 where
  pub moved : (row leaf : ℕ) → first ≤ row → row < first + count → leaf < done → entry new row leaf ≡ entry source row leaf
  pub stands : (row leaf : ℕ) → row < first → entry new row leaf ≡ entry old row leaf
