-- `kernel V .. lanes N` runs a kernel over the rows of a table, and writes the number of those that give one.
use Rattle.std.specs.Prelude.{◌^◌, ◌&&◌, ◌||◌, ◌∷◌}
use Rattle.worlds.specs.Imports.{ℕ, Bool, true, not, ℤ, pos, neg_ℤ, int_le, int_lt, nat_eq, nat_lt, List, [], length, Option, Some, None, Ok, list_any, BinOp, PathStep, width_of, kinds_of, Fields, kind_at, Table, answer_of, kept_of, KernelText, KernelFault, Kernel, Axpy, Clamp, Sum, Least, Greatest, CountWhere, Compare, Eq, Ne, Lt, Le, Gt, Ge, kernel_rows_log}
use Rattle.expr_lang.specs.declared.expr.BinOp.TheVariants as op
use Rattle.line_grammar.specs.declared.line.KernelText.TheVariants as text
use Rattle.lane_kernels.specs.declared.fault.KernelFault.TheVariants as kernel_fault
use Rattle.lane_kernels.specs.Kernels as kernels
use Rattle.worlds.specs.OnView.{Done}
use Rattle.worlds.specs.Outcomes.{Tested, ◌>>=◌, refused_if, refused_by}
use Rattle.worlds.specs.Names.{leaf_of, text_of_leaf}
use Rattle.worlds.specs.Texts.{number_line}
use Rattle.worlds.specs.declared.fault.BadKernel.TheVariants.{Lanes, Wide, Constant}
use Rattle.worlds.specs.declared.fault.CommandFault.{CommandFault}
use Rattle.worlds.specs.declared.fault.CommandFault.TheVariants.{BadKernel, Empty, Range, Narrow}

-- a comparison by its sign; the grammar lets no other operator stand here
abbrev pub compare_of : BinOp → Compare
compare_of op.Ne = Ne
compare_of op.Lt = Lt
compare_of op.Le = Le
compare_of op.Gt = Gt
compare_of op.Ge = Ge
compare_of _ = Eq

-- blocks have 1, 2, 4, 8 or 16 lanes
abbrev pub are_lanes : ℕ → Bool
are_lanes lanes = list_any (nat_eq lanes) (1 ∷ 2 ∷ 4 ∷ 8 ∷ 16 ∷ [])

-- the type of a leaf has more than 32 bits
abbrev pub is_wide : Fields → ℕ → Bool
is_wide fields leaf = nat_lt 32 (width_of (kind_at (kinds_of fields) leaf))

-- from -2^31 to below 2^31, and to below 2^32
abbrev pub is_factor : ℤ → Bool
is_factor a = int_le (neg_ℤ (pos (2 ^ 31))) a && int_lt a (pos (2 ^ 31))

abbrev pub is_constant : ℤ → Bool
is_constant c = int_le (neg_ℤ (pos (2 ^ 31))) c && int_lt c (pos (2 ^ 32))

abbrev pub are_bounds : ℤ → ℤ → Bool
are_bounds lo hi = is_constant lo && (is_constant hi && int_le lo hi)

-- a number of lanes, leaves of which some is wide or none, and constants that are in their ranges or not
abbrev pub fits : ℕ → Bool → Bool → Tested (Unit {0})
fits lanes wide constants = do
  even ← refused_if (not (are_lanes lanes)) (BadKernel Lanes)
  narrow ← refused_if wide (BadKernel Wide)
  refused_if (not constants) (BadKernel Constant)

-- the number of the one leaf of a kernel
abbrev pub fit_leaf : Fields → List PathStep → ℕ → Bool → Tested ℕ
fit_leaf fields path lanes constants = do
  leaf ← leaf_of fields path
  fit ← fits lanes (is_wide fields leaf) constants
  Ok leaf

-- a kernel that can run on a table of this record: the numbers of its leaves stand in place of their paths
abbrev pub fit_kernel : Fields → KernelText → ℕ → Tested Kernel
fit_kernel fields (text.Axpy a x y) lanes = do
  from ← leaf_of fields x
  to ← leaf_of fields y
  fit ← fits lanes (is_wide fields from || is_wide fields to) (is_factor a)
  Ok (Axpy a from to)
fit_kernel fields (text.Clamp x lo hi) lanes = do
  leaf ← fit_leaf fields x lanes (are_bounds lo hi)
  Ok (Clamp leaf lo hi)
fit_kernel fields (text.Sum x) lanes = do
  leaf ← fit_leaf fields x lanes true
  Ok (Sum leaf)
fit_kernel fields (text.Least x) lanes = do
  leaf ← fit_leaf fields x lanes true
  Ok (Least leaf)
fit_kernel fields (text.Greatest x) lanes = do
  leaf ← fit_leaf fields x lanes true
  Ok (Greatest leaf)
fit_kernel fields (text.CountWhere x op c) lanes = do
  leaf ← fit_leaf fields x lanes (is_constant c)
  Ok (CountWhere leaf (compare_of op) c)

-- the fault of a row, with the path text of its leaf
abbrev pub kernel_row_fault : Fields → KernelFault → CommandFault
kernel_row_fault fields kernel_fault.Empty = Empty
kernel_row_fault fields (kernel_fault.Range row leaf) = Range row (text_of_leaf fields leaf)
kernel_row_fault fields (kernel_fault.Narrow row leaf) = Narrow row (text_of_leaf fields leaf)

-- the number as a line, where there is one
abbrev pub number_text : Option ℤ → List ℕ
number_text None = []
number_text (Some number) = number_line number

-- what a kernel that can run does
abbrev pub kernel_outcome : Table → Kernel → Tested Done
kernel_outcome table kernel = do
  done ← refused_by (kernel_row_fault table.fields) (kernels.kernel_fault (answer_of table) kernel table.rows)
  Ok (record {
    rows = kernels.run_rows (kept_of table) kernel (length table.rows) table.rows;
    log = kernel_rows_log kernel (length table.rows);
    text = number_text (kernels.given_number kernel table.rows);
  })

unfoldable pub kernel_run : Table → KernelText → ℕ → Tested Done
kernel_run table text lanes = do
  fit ← fit_kernel table.fields text lanes
  kernel_outcome table fit
