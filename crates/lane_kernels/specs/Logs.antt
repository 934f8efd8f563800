-- The accesses of a kernel, row by row: in each row its reads, then its write.
use Rattle.std.specs.Prelude.{ℕ, ◌+◌, ◌*◌, ◌/◌, nat_le, List, [], ◌∷◌, ◌++◌, if◌then◌else◌}
use Rattle.record_dim.specs.Std.{flat_map, range_with_len}
use Rattle.views.specs.Prelude.{Access, Read, Write}
use Rattle.lane_kernels.specs.declared.fault.KernelFault.{KernelFault}
use Rattle.lane_kernels.specs.declared.fault.KernelFault.TheVariants.{Empty, Range, Narrow}
use Rattle.lane_kernels.specs.declared.kernel.Kernel.{Kernel}
use Rattle.lane_kernels.specs.declared.kernel.Kernel.TheVariants.{Axpy, Clamp, Sum, Least, Greatest, CountWhere}

abbrev pub reads_on : Kernel → ℕ → List Access
reads_on (Axpy a x y) row = Read row x ∷ Read row y ∷ []
reads_on (Clamp x lo hi) row = Read row x ∷ []
reads_on (Sum x) row = Read row x ∷ []
reads_on (Least x) row = Read row x ∷ []
reads_on (Greatest x) row = Read row x ∷ []
reads_on (CountWhere x op c) row = Read row x ∷ []

abbrev pub writes_on : Kernel → ℕ → List Access
writes_on (Axpy a x y) row = Write row y ∷ []
writes_on (Clamp x lo hi) row = Write row x ∷ []
writes_on _ row = []

-- those of the first so many rows
abbrev pub kernel_rows_log : Kernel → ℕ → List Access
kernel_rows_log kernel count = flat_map (λ row. reads_on kernel row ++ writes_on kernel row) (range_with_len 0 count)

-- how many of so many rows are read where one is refused: those through the end of its block, and in the rest those through itself
abbrev pub rows_read : ℕ → ℕ → ℕ → ℕ
rows_read lanes count row = if nat_le ((row / lanes + 1) * lanes) count then (row / lanes + 1) * lanes else row + 1

-- the reads of these rows, and the writes of the rows before the refused one
abbrev pub stopped_log : Kernel → ℕ → ℕ → List Access
stopped_log kernel read row = flat_map (reads_on kernel) (range_with_len 0 read) ++ flat_map (writes_on kernel) (range_with_len 0 row)

-- those up to a fault, in blocks of so many rows
abbrev pub fault_log : Kernel → ℕ → ℕ → KernelFault → List Access
fault_log kernel lanes count Empty = []
fault_log kernel lanes count (Range row leaf) = stopped_log kernel (rows_read lanes count row) row
fault_log kernel lanes count (Narrow row leaf) = stopped_log kernel (rows_read lanes count row) row
