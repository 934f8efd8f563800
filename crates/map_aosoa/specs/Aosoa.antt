-- What a mapping keeps of its layout.
use Rattle.std.specs.Prelude.{ℕ, ◌≡◌, ◌+◌, ◌-◌, ◌*◌, ◌/◌, ◌<◌, List, length, slice_index, take}
use Rattle.record_dim.specs.Std.{sum}

-- how many blocks of `lanes` slots so many slots take
abbrev pub block_count : ℕ → ℕ → ℕ
block_count lanes slots = (slots + (lanes - 1)) / lanes

-- the lanes of a cell begin behind all lanes of the cells before it, and a block ends behind all lanes of all cells
pub record LieInBlocks (lanes : ℕ) (widths offsets : List ℕ) (stride : ℕ) : Type 0 where
  pub each : length offsets ≡ length widths
  pub begins : (cell : ℕ) → cell < length widths → slice_index offsets cell ≡ lanes * sum (take cell widths)
  pub ends : stride ≡ lanes * sum widths
