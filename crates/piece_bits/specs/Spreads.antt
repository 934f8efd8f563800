-- How the rows of a stretch lie from the first one.
use Rattle.std.specs.Prelude.{ℕ, ◌+◌, ◌*◌, ◌/◌, ◌%◌, ◌^◌, [], ◌∷◌}
use Rattle.piece_bits.specs.Imports.{interleaved}
use Rattle.piece_bits.specs.declared.stretch.Spread.{Spread}
use Rattle.piece_bits.specs.declared.stretch.Spread.TheVariants as spread

-- how far from the first a row lies: as far as the second times its number, or times its binary digits moved apart; or so many blocks on, and
-- in its block as far as the second times its number there
abbrev pub offset_by : Spread → ℕ → ℕ → ℕ
offset_by spread.Even apart k = k * apart
offset_by (spread.Blocks power block) apart k = k / 2 ^ power * block + k % 2 ^ power * apart
offset_by spread.Digits apart k = interleaved (0 ∷ k ∷ []) * apart

-- the power of two that the rows of a block are
abbrev pub spread_power : Spread → ℕ
spread_power (spread.Blocks power block) = power
spread_power _ = 0
