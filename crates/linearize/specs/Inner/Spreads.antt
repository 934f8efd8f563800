-- Binary digits that are moved apart.
use Rattle.std.specs.Prelude.{ℕ, ◌≡◌, ◌/◌, ◌%◌, ◌==◌, if◌then◌else◌}
use Rattle.std.specs.Int.{bit_at}

-- digit k * rank of y is digit k of x, and all others are 0
abbrev pub IsSpread : ℕ → ℕ → ℕ → Type 0
IsSpread rank x y = (k : ℕ) → bit_at y k ≡ (if k % rank == 0 then bit_at x (k / rank) else 0)
