-- How far a number of 64 bits lies above another, around the end.
use Rattle.std.specs.Prelude.{ℕ, ℤ, ◌+◌, ◌-◌, ◌%◌, ◌^◌}
use Rattle.piece_bits.specs.Imports.{cast_unsigned}
use mir.Syntax.{w64}

abbrev pub far_of : ℤ → ℤ → ℕ
far_of least value = (cast_unsigned w64 value + (2 ^ 64 - cast_unsigned w64 least)) % 2 ^ 64
