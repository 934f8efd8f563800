-- What a kernel does with rows one after another.
use Rattle.std.specs.Prelude.{ℕ, ◌≡◌, ◌+◌, ◌-◌, ◌≤◌, ℤ, List, [], ◌∷◌, ◌++◌, length, take, drop, Option, Some, None, Result, Ok, Err}
use Rattle.record_dim.specs.Std.{flat_map, range_with_len}
use Rattle.views.specs.Prelude.{Table, answer_of, kept_of, after_stores}
use Rattle.views.specs.declared.fault.LaneFault.{LaneFault}
use Rattle.lane_kernels.specs.Kernels.{first_row_fault, empty_fault, fault_named, given_number, rows_before, run_rows}
use Rattle.lane_kernels.specs.Logs.{reads_on, writes_on, kernel_rows_log}
use Rattle.lane_kernels.specs.declared.fault.KernelFault.{KernelFault}
use Rattle.lane_kernels.specs.declared.kernel.Kernel.{Kernel}

-- the fault of a result
abbrev pub fault_in : {T : Type 0} → Result T KernelFault → Option KernelFault
fault_in (Ok value) = None
fault_in (Err fault) = Some fault

-- the fault of a lane of rows that begin with this one
abbrev pub named_row : ℕ → ℕ → LaneFault → KernelFault
named_row row leaf fault = fault_named (row + fault.lane) leaf fault.fault

-- what a kernel answers where there is no row
abbrev pub IsOfNoRow : Kernel → Result (Option ℤ) KernelFault → Type 0
IsOfNoRow kernel (Ok number) = (empty_fault kernel [] ≡ None) × (number ≡ given_number kernel [])
IsOfNoRow kernel (Err fault) = empty_fault kernel [] ≡ Some fault

-- the number of some rows, and none of no row
abbrev pub number_so_far : Kernel → List (List ℤ) → Option ℤ
number_so_far kernel [] = None
number_so_far kernel (row ∷ rows) = given_number kernel (row ∷ rows)

-- how many of so many rows from one on are done before a fault
abbrev pub rows_done : ℕ → ℕ → Option KernelFault → ℕ
rows_done row count None = count
rows_done row count (Some fault) = rows_before fault - row

-- the table after so many rows from one on are read, and so many of them changed
abbrev pub after_rows : Table → Kernel → ℕ → ℕ → ℕ → Table
after_rows old kernel row read changed =
    after_stores old (take row old.rows ++ run_rows (kept_of old) kernel changed (drop row old.rows))
    (flat_map (reads_on kernel) (range_with_len row read) ++ flat_map (writes_on kernel) (range_with_len row changed))

-- some rows from one on, and the number of those before
pub record AreNext (rows : List (List ℤ)) (kernel : Kernel) (row count : ℕ) (number : Option ℤ) : Type 0 where
  pub some : 1 ≤ count
  pub inside : row + count ≤ length rows
  pub so_far : number ≡ number_so_far kernel (take row rows)

-- the fault of so many rows from one on, and the table after those before it
pub record AreTaken (old new : Table) (kernel : Kernel) (row count : ℕ) (fault : Option KernelFault) : Type 0 where
  pub named : fault ≡ first_row_fault (answer_of old) kernel row (take count (drop row old.rows))
  pub after : new ≡ after_rows old kernel row count (rows_done row count fault)

-- the rows before this one are done, and had no fault
pub record AreDone (old : Table) (kernel : Kernel) (view : Table) (row : ℕ) (number : Option ℤ) : Type 0 where
  pub same : view ≡ after_stores old (run_rows (kept_of old) kernel row old.rows) (kernel_rows_log kernel row)
  pub clean : first_row_fault (answer_of old) kernel 0 (take row old.rows) ≡ None
  pub so_far : number ≡ number_so_far kernel (take row old.rows)
