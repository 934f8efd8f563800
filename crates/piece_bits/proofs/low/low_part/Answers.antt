use Rattle.piece_bits.proofs.Lemmas.{◌≡◌, ◌≤◌, ◌*◌, ◌%◌, ◌^◌, ℕ, negsuc, arith, to_z, of_z, nat_abs, to_z-of_z, pow_mono, common_steps, low_of, above_of}
use Rattle.piece_bits.proofs.low.low_part.Goals as goal

-- so many numbers fit
power : (width : ℕ) → width ≤ 64 → 1 * 2 ^ width % 340282366920938463463374607431768211456 ≡ 2 ^ width
power width few = grind (arith, pow_mono)

pub returns-then-value-lt0-clause-value : goal.returns-then-value-lt0-clause-value
returns-then-value-lt0-clause-value c = grind (arith, common_steps, to_z, of_z, to_z-of_z, negsuc, nat_abs, power, above_of)

pub returns-else-value-lt0-clause-value : goal.returns-else-value-lt0-clause-value
returns-else-value-lt0-clause-value c = grind (arith, common_steps, to_z, of_z, to_z-of_z, nat_abs, power, low_of)
