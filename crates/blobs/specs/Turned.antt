-- Whole bytes in reverse order.
use Rattle.std.specs.Prelude.{ℕ, zero, suc, ◌+◌, ◌-◌, ◌*◌, ◌/◌, ◌%◌, List, slice_index_or, ◌≡◌, ◌⊎◌}

-- the number of n bytes, the last the least significant
abbrev pub turned_from : ℕ → ℕ → List ℕ → ℕ
turned_from first zero bytes = 0
turned_from first (suc n) bytes = slice_index_or bytes (first + n) 0 + 256 * turned_from first n bytes

-- where bit k of a number of so many bits stands, whose bytes are in reverse order
abbrev pub turned_place : ℕ → ℕ → ℕ
turned_place n k = 8 * (n / 8 - 1 - k / 8) + k % 8

-- a number of bits that is two, four or eight bytes
abbrev pub IsTurned : ℕ → Type 0
IsTurned n = (n ≡ 16) ⊎ ((n ≡ 32) ⊎ (n ≡ 64))
