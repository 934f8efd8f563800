-- Sixteen numbers side by side, and numbers of at most 32 bits.
use Rattle.std.specs.Prelude.{◌≡◌, ◌^◌, ℤ, pos, neg_ℤ, ◌≤ℤ◌, ◌<ℤ◌, List, length, FitsSigned}
use Rattle.piece_bits.specs.Imports.{Each1}
use mir.Syntax.{w64}

-- a block: sixteen numbers that fit 64 bits with a sign
pub record IsBlock (lanes : List ℤ) : Type 0 where
  pub count : length lanes ≡ 16
  pub fit : Each1 (FitsSigned w64) lanes

-- a factor from -2^31 to 2^31 - 1, and a number from -2^31 to 2^32 - 1, as the leaf types of at most 32 bits have
abbrev pub IsFactor : ℤ → Type 0
IsFactor a = (neg_ℤ (pos (2 ^ 31)) ≤ℤ a) × (a <ℤ pos (2 ^ 31))

abbrev pub IsNarrow : ℤ → Type 0
IsNarrow value = (neg_ℤ (pos (2 ^ 31)) ≤ℤ value) × (value <ℤ pos (2 ^ 32))
