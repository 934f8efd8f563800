-- The low 64 bits of a number.
use Rattle.std.specs.Prelude.{ℤ, pos, neg_ℤ, ◌≤ℤ◌, ◌<ℤ◌, ◌^◌}
use Rattle.piece_bits.specs.Imports.{cast_signed, cast_unsigned}
use mir.Syntax.{w64}

-- a number by its low 64 bits, read with a sign: itself, where it lies from -2^63 to 2^63 - 1, and one less 2^64 from there on
abbrev pub low_64 : ℤ → ℤ
low_64 z = cast_signed w64 (cast_unsigned w64 z)

-- a number of 64 bits, with a sign or without
abbrev pub IsWithin64 : ℤ → Type 0
IsWithin64 z = (neg_ℤ (pos (2 ^ 63)) ≤ℤ z) × (z <ℤ pos (2 ^ 64))
