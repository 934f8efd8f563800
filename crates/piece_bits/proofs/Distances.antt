-- Numbers of 64 bits that lie so far above others.
use Rattle.piece_bits.proofs.Imports.{ℕ, ◌≤◌, ℤ, ◌≤ℤ◌, FitsSigned, w64, arith, far_of}

-- a number of 64 bits lies no farther above another
pub record IsNoFarther (least value : ℤ) (far : ℕ) : Type 0 where
  pub fits : FitsSigned w64 value
  pub few : far_of least value ≤ far

-- what lies no farther above the least number than the greatest lies between the two
pub between : (l g v : ℤ) → FitsSigned w64 l → FitsSigned w64 g → FitsSigned w64 v → l ≤ℤ g → far_of l v ≤ far_of l g → (l ≤ℤ v) × (v ≤ℤ g)
between l g v f h k order near = grind arith
