-- Values and their bits, as the code computes them.
use Rattle.piece_bits.proofs.Imports.{◌≡◌, ℕ, ◌-◌, ◌^◌, ◌<◌, ◌≤◌, Bool, ℤ, pos, negsuc, refl, ◌∙◌, arith, pow_pos, IsIn, number, digit, half_of, number_pos, number_negsuc}

-- a value that is held is below 2^width, and so is its distance below 0
pub held_pos : (signed : Bool) (width n : ℕ) → 1 ≤ width → IsIn signed width (pos n) → n < 2 ^ width
held_pos signed width n some fits = grind (arith, pow_pos, half_of)

pub held_negsuc : (signed : Bool) (width n : ℕ) → 1 ≤ width → IsIn signed width (negsuc n) → n < 2 ^ width
held_negsuc signed width n some fits = grind (arith, pow_pos, half_of)

-- the bits of a value, as the code computes them
pub encoded : (signed : Bool) (width : ℕ) (value : ℤ) (bits : ℕ) → 1 ≤ width → IsIn signed width value →
    ((n : ℕ) → value ≡ pos n → n < 2 ^ width → bits ≡ n) → ((n : ℕ) → value ≡ negsuc n → n < 2 ^ width → bits ≡ 2 ^ width - 1 - n) →
    bits ≡ number (digit value) width
encoded signed width (pos n) bits some fits plain complement = grind (arith, held_pos, number_pos)
encoded signed width (negsuc n) bits some fits plain complement =
    let small = held_negsuc signed width n some fits in
    complement n refl small ∙ (omega (arith, (number_negsuc n width small)))

-- a number is at least 0, or below
pub by_sign : {P : Type 0} (value : ℤ) → ((n : ℕ) → value ≡ pos n → P) → ((n : ℕ) → value ≡ negsuc n → P) → P
by_sign (pos n) above below = above n refl
by_sign (negsuc n) above below = below n refl
