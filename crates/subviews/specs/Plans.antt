-- What the calls of a stencil are given.
use Rattle.std.specs.Prelude.{ℕ, ◌≡◌, ◌+◌, ◌-◌, ◌/◌, ◌<◌, ◌≤◌, ◌^◌, true, max, ℤ, pos, ◌+ℤ◌, ◌<ℤ◌, unsigned_abs, List, length, map, sum_by, take, All, Contains, Ok, Some, slice_get, slice_index_or}
use Rattle.subviews.specs.Imports.{indices, uncounted, entry, LeafType, IsDeclared, leaves, kinds_of, Fields, kind_at, Table, answer_of, after_log, Access}
use Rattle.subviews.specs.SubViews.{WindowOf, rows_of}
use Rattle.subviews.specs.Stencils.{Stencil, weighted, row_from, reaches, is_weight, values_fault, new_entry, round_reads}
use Rattle.subviews.specs.declared.term.Term.{Term}
use Rattle.subviews.specs.declared.plan.Plan.{Plan}
use Rattle.subviews.specs.declared.runs.Run.{Run}
use Rattle.subviews.specs.declared.runs.Walk.{Walk}

abbrev pub stencil_by : WindowOf → ℕ → List Term → ℕ → Stencil
stencil_by window leaf terms divisor = record { window = window; leaf = leaf; terms = map weighted terms; divisor = pos divisor }

-- a term reads a leaf of so many, with a weight and a reach that a stencil may have
pub record IsTermOf (leaves : ℕ) (window : WindowOf) (term : Term) : Type 0 where
  pub inside : term.leaf < leaves
  pub weight : is_weight term.weight ≡ true
  pub reach : reaches window term.offsets.items ≡ true

-- the same, whatever its reach
pub record IsLightTermOf (leaves : ℕ) (term : Term) : Type 0 where
  pub inside : term.leaf < leaves
  pub light : unsigned_abs term.weight ≤ 2 ^ 31

-- how far from 0 the weights of terms lie, all together, and how far values may lie, so that no sum of them passes 64 bits
abbrev pub all_weights : List Term → ℕ
all_weights terms = sum_by (λ term. unsigned_abs term.weight) terms

abbrev pub limit_of : List Term → ℕ
limit_of terms = (2 ^ 63 - 1) / max (all_weights terms) 1

-- no value of a leaf that a term reads lies further from 0
abbrev pub AreNear : List LeafType → List Term → Type 0
AreNear kinds terms = All (λ term. (value : ℤ) → IsDeclared (kind_at kinds term.leaf) value → unsigned_abs value ≤ limit_of terms) terms

-- a buffer has the record, the extents and the mode of a view, and its mapping without the counters
pub record IsBufferOf (table buffer : Table) : Type 0 where
  pub fields : buffer.fields ≡ table.fields
  pub extents : buffer.extents ≡ table.extents
  pub mode : buffer.mode ≡ table.mode
  pub mapping : buffer.mapping ≡ uncounted table.mapping

-- from each row of a window its entry lies this many rows away
abbrev pub IsFar : WindowOf → List ℤ → ℤ → Type 0
IsFar window offsets far = (row : ℕ) → Contains (rows_of window) row → pos (row_from window.0 row offsets) ≡ pos row +ℤ far

-- the stencil of a plan
abbrev pub planned : Plan → Stencil
planned plan = record { window = plan.window.now; leaf = plan.leaf; terms = map weighted plan.terms.now; divisor = plan.divisor }

-- a plan for an array of records: the stencil is one that it may have, and the distances are those of its terms
pub record IsPlanOf (fields : Fields) (extents : List ℕ) (plan : Plan) : Type 0 where
  pub window : plan.window.now.0 ≡ extents
  pub rows : length (indices plan.window.now.0) ≤ 2 ^ 24
  pub inside : plan.leaf < length (leaves fields)
  pub terms : All (IsTermOf (length (leaves fields)) plan.window.now) plan.terms.now
  pub few : length plan.terms.now ≤ 64
  pub divisor : pos 0 <ℤ plan.divisor
  pub far : (place : ℕ) (other : Term) → place < length plan.terms.now
      → IsFar plan.window.now (slice_index_or plan.terms.now place other).offsets.items (slice_index_or plan.far place (pos 0))
  pub near : plan.near ≡ true → AreNear (kinds_of fields) plan.terms.now

-- no access changes the table
abbrev pub IsIdle : Table → Type 0
IsIdle table = (log : List Access) → after_log table log ≡ table

-- from this place on, so many numbers are one behind another
abbrev pub AreConsecutive : List ℕ → ℕ → ℕ → ℕ → Type 0
AreConsecutive numbers place first count = (k : ℕ) → k < count → slice_get numbers (place + k) ≡ Some (first + k)

-- rows of a window that lie one behind another, at most 256
pub record IsRunOf (window : WindowOf) (run : Run) : Type 0 where
  pub some : 0 < run.rows
  pub few : run.rows ≤ 256
  pub each : AreConsecutive (rows_of window) run.row run.first run.rows

-- a walk over a window that comes to this row next
pub record IsWalk (window : WindowOf) (walk : Walk) (row : ℕ) : Type 0 where
  pub rows : length (indices window.0) ≤ 2 ^ 24
  pub some : 0 < walk.width
  pub narrow : walk.width < 2 ^ 33
  pub run : AreConsecutive (rows_of window) row walk.next walk.left

-- the values of the first so many rows of a round fit, they were read, and the buffer has what is kept of them
pub record IsFilled (old view first buffer : Table) (plan : Plan) (k : ℕ) : Type 0 where
  pub fits : values_fault (answer_of old) (planned plan) old.rows (take k (rows_of plan.window.now)) ≡ Ok tt
  pub read : view ≡ after_log old (round_reads (planned plan) (take k (rows_of plan.window.now)))
  pub filled : (j : ℕ) → j < k → entry buffer.rows (slice_index_or (rows_of plan.window.now) j 0) plan.leaf
      ≡ new_entry (answer_of old) (planned plan) old.rows (slice_index_or (rows_of plan.window.now) j 0)
  pub same : buffer ≡ record first { rows = buffer.rows; tally = buffer.tally }
