-- How many rows go together, and the steps that they take.
use Rattle.std.specs.Prelude.{ℕ, ◌≡◌, ◌+◌, ◌-◌, ◌/◌, ◌%◌, ◌≤◌, ◌⊎◌, Bool, true, false, min, nat_le, if◌then◌else◌}
use Rattle.record_dim.specs.Std.{div_ceil}

-- how many of so many rows go together from one on: where nothing counts accesses 256, and else a block, or one of the rest
abbrev pub step_of : Bool → ℕ → ℕ → ℕ → ℕ
step_of true lanes count row = min (count - row) 256
step_of false lanes count row = if nat_le lanes (count - row) then lanes else 1

-- before this row stand whole blocks alone, or all of them
pub record IsAt (lanes count row : ℕ) : Type 0 where
  pub inside : row ≤ count
  pub even : (row % lanes ≡ 0) ⊎ (row / lanes ≡ count / lanes)

-- the steps of a read, or of a store, of rows that go together
abbrev pub sixteens : ℕ → ℕ
sixteens rows = div_ceil rows 16

-- the steps of so many rows, as they go together
abbrev pub cost : Bool → ℕ → ℕ → ℕ
cost true lanes rows = sixteens rows
cost false lanes rows = rows / lanes + rows % lanes
