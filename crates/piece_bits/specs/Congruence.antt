-- When two numbers are equal but for multiples of a third.
use Rattle.std.specs.Prelude.{◌≡◌, ℕ, ◌*◌, ℤ, pos, ◌+ℤ◌}

-- two numbers are equal once multiples of m are added to both
pub record AreCongruent (m : ℕ) (a b : ℤ) : Type 0 where
  pub one : ℕ
  pub other : ℕ
  pub same : a +ℤ pos (one * m) ≡ b +ℤ pos (other * m)
