-- The remainder by a power of two.
use Rattle.piece_bits.proofs.Imports.{◌≡◌, ℕ, ◌-◌, ◌%◌, ◌^◌, ℤ, pos, negsuc, arith, number, digit, number_bits, digits_negsuc}

-- the low bits of a number from 0 on are the remainder
pub low_of : (value : ℤ) (n width : ℕ) → value ≡ pos n → n % 2 ^ width ≡ number (digit value) width
low_of value n width is = grind (arith, number_bits)

-- those of a number below 0 are what the remainder of its distance from -1 leaves
pub above_of : (value : ℤ) (n width : ℕ) → value ≡ negsuc n → 2 ^ width - 1 - n % 2 ^ width ≡ number (digit value) width
above_of value n width is = grind (arith, negsuc, digits_negsuc)
