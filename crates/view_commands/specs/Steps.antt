-- The most steps that a command takes.
use Rattle.std.specs.Prelude.{ℕ, ◌+◌, ◌≤◌, length, Option, Some, None, Ok}
use Rattle.view_commands.specs.Imports.{kernel_cost, Kernel, KernelText, Table, fit_kernel, Tested}

-- from one count of steps to another at most so many were taken; where no number stands, nothing is said
abbrev pub Within : Option ℕ → ℕ → ℕ → Type 0
Within None old new = Unit {0}
Within (Some most) old new = new ≤ old + most

-- the most steps of a kernel on so many rows, and none where it is refused
abbrev pub kernel_cost_of : ℕ → ℕ → Tested Kernel → ℕ
kernel_cost_of lanes rows (Ok kernel) = kernel_cost kernel lanes rows
kernel_cost_of lanes rows _ = 0

-- those of the kernel of a text on a table
abbrev pub kernel_steps : Table → KernelText → ℕ → ℕ
kernel_steps table text lanes = kernel_cost_of lanes (length table.rows) (fit_kernel table.fields text lanes)
