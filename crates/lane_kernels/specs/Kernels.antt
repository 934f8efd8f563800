-- What a kernel makes of the rows of a table, row by row, and which number it gives.
use Rattle.std.specs.Prelude.{ℕ, ◌+◌, ◌*◌, ◌/◌, ◌%◌, ◌≡◌, ℤ, pos, ◌+ℤ◌, ◌*ℤ◌, ◌≤ℤ◌, List, [], ◌∷◌, ◌++◌, length, map, take, drop, slice_set, Option, Some, None, Result, Ok, Err}
use Rattle.record_dim.specs.Std.{int_min, int_max, option_or}
use Rattle.std.specs.List.{count_by}
use Rattle.views.specs.Prelude.{Table, answer_of, kept_of, after_stores, StoreAnswer, Keeping}
use Rattle.views.specs.declared.fault.StoreFault.TheVariants as store
use Rattle.views.specs.declared.fault.StoreFault.{StoreFault}
pub use Rattle.views.specs.Prelude.{in_leaf, column, IsNarrowLeaf}
pub use Rattle.piece_bits.specs.Prelude.{IsFactor, IsNarrow, compares}
pub use Rattle.piece_bits.specs.declared.compare.Compare.{Compare}
pub use Rattle.piece_bits.specs.declared.compare.Compare.TheVariants.{Eq, Ne, Lt, Le, Gt, Ge}
use Rattle.lane_kernels.specs.Logs.{kernel_rows_log, fault_log}
pub use Rattle.lane_kernels.specs.Reductions.{reduced_by}
use Rattle.lane_kernels.specs.declared.fault.KernelFault.{KernelFault}
use Rattle.lane_kernels.specs.declared.fault.KernelFault.TheVariants.{Empty, Range, Narrow}
use Rattle.lane_kernels.specs.declared.kernel.Kernel.{Kernel}
use Rattle.lane_kernels.specs.declared.kernel.Kernel.TheVariants.{Axpy, Clamp, Sum, Least, Greatest, CountWhere}
use Rattle.lane_kernels.specs.declared.reduce.Reduction.TheVariants as form

-- what a kernel stores in a row: a leaf and its value
pub record Store : Type 0 where
  pub leaf : ℕ
  pub value : ℤ

-- `axpy` stores a * x + y in y, and `clamp` in x its value brought into lo to hi; the other kernels store nothing
abbrev pub stored : Kernel → List ℤ → Option Store
stored (Axpy a x y) row = Some (record { leaf = y; value = a *ℤ in_leaf x row +ℤ in_leaf y row })
stored (Clamp x lo hi) row = Some (record { leaf = x; value = int_max lo (int_min (in_leaf x row) hi) })
stored _ row = None

-- a row after a store, with the number that is kept
abbrev pub with_store : Keeping → List ℤ → Option Store → List ℤ
with_store keep row None = row
with_store keep row (Some store) = slice_set row store.leaf (keep store.leaf store.value)

-- the first so many rows after the kernel, the others as they were
abbrev pub run_rows : Keeping → Kernel → ℕ → List (List ℤ) → List (List ℤ)
run_rows keep kernel count rows = map (λ row. with_store keep row (stored kernel row)) (take count rows) ++ drop count rows

-- the fault of a store that the row of this number does not take
abbrev pub fault_named : ℕ → ℕ → StoreFault → KernelFault
fault_named row leaf store.Range = Range row leaf
fault_named row leaf store.Narrow = Narrow row leaf

abbrev pub answer_fault : ℕ → ℕ → Result ℤ StoreFault → Option KernelFault
answer_fault row leaf (Ok kept) = None
answer_fault row leaf (Err fault) = Some (fault_named row leaf fault)

abbrev pub kernel_store_fault : StoreAnswer → ℕ → Option Store → Option KernelFault
kernel_store_fault answer row None = None
kernel_store_fault answer row (Some store) = answer_fault row store.leaf (answer store.leaf store.value)

-- the fault of the first of these rows, whose numbers begin with this one, that does not take the kernel's store
abbrev pub first_row_fault : StoreAnswer → Kernel → ℕ → List (List ℤ) → Option KernelFault
first_row_fault answer kernel row [] = None
first_row_fault answer kernel row (values ∷ rows) = option_or (kernel_store_fault answer row (stored kernel values)) (first_row_fault answer kernel (row + 1) rows)

-- no row has a least and a greatest value
abbrev pub empty_fault : Kernel → List (List ℤ) → Option KernelFault
empty_fault (Least x) [] = Some Empty
empty_fault (Greatest x) [] = Some Empty
empty_fault _ rows = None

-- the fault of a kernel on a table
abbrev pub kernel_fault : StoreAnswer → Kernel → List (List ℤ) → Option KernelFault
kernel_fault answer kernel rows = option_or (empty_fault kernel rows) (first_row_fault answer kernel 0 rows)

-- the number that a kernel gives; those that store give none
abbrev pub given_number : Kernel → List (List ℤ) → Option ℤ
given_number (Axpy a x y) rows = None
given_number (Clamp x lo hi) rows = None
given_number (Sum x) rows = reduced_by form.Sum (column x rows)
given_number (Least x) rows = reduced_by form.Least (column x rows)
given_number (Greatest x) rows = reduced_by form.Greatest (column x rows)
given_number (CountWhere x op c) rows = Some (pos (count_by (λ value. compares op value c) (column x rows)))

-- how many rows were done before a fault
abbrev pub rows_before : KernelFault → ℕ
rows_before Empty = 0
rows_before (Range row leaf) = row
rows_before (Narrow row leaf) = row

-- what a kernel answers on a view, which becomes `new`, in blocks of so many rows; after a fault exactly the rows before it are changed
abbrev pub IsKernelRun : Table → Table → Kernel → ℕ → Result (Option ℤ) KernelFault → Type 0
IsKernelRun old new kernel lanes (Ok number) =
    (kernel_fault (answer_of old) kernel old.rows ≡ None) × (number ≡ given_number kernel old.rows)
    × (new ≡ after_stores old (run_rows (kept_of old) kernel (length old.rows) old.rows) (kernel_rows_log kernel (length old.rows)))
IsKernelRun old new kernel lanes (Err fault) =
    (kernel_fault (answer_of old) kernel old.rows ≡ Some fault)
    × (new ≡ after_stores old (run_rows (kept_of old) kernel (rows_before fault) old.rows) (fault_log kernel lanes (length old.rows) fault))

-- a kernel that can run on a view
abbrev pub IsKernelOf : Table → Kernel → Type 0
IsKernelOf table (Axpy a x y) = IsFactor a × IsNarrowLeaf table x × IsNarrowLeaf table y
IsKernelOf table (Clamp x lo hi) = IsNarrowLeaf table x × IsNarrow lo × IsNarrow hi × (lo ≤ℤ hi)
IsKernelOf table (Sum x) = IsNarrowLeaf table x
IsKernelOf table (Least x) = IsNarrowLeaf table x
IsKernelOf table (Greatest x) = IsNarrowLeaf table x
IsKernelOf table (CountWhere x op c) = IsNarrowLeaf table x × IsNarrow c

-- the most steps of a kernel for a block or for a row of the rest, and over so many rows in blocks of so many lanes
abbrev pub row_cost : Kernel → ℕ
row_cost (Axpy a x y) = 3
row_cost (Clamp x lo hi) = 2
row_cost _ = 1

abbrev pub kernel_cost : Kernel → ℕ → ℕ → ℕ
kernel_cost kernel lanes rows = row_cost kernel * (rows / lanes + rows % lanes) + lanes
