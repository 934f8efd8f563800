-- The number that a field of bits says, as the code works it out.
use Rattle.piece_bits.proofs.Imports.{◌≡◌, ℕ, ◌+◌, ◌-◌, ◌%◌, ◌^◌, ◌<◌, ◌≤◌, ◌*◌, Bool, true, false, bit_xor, pos, ◌-ℤ◌, ⊎_elim, arith, common_steps, pow_pos, xor_block, cases_lt, mod-eq_of_lt, mod-eq-sub-mod, decoded, decoded_low, decoded_high, half_of, half_range}

-- half of the range is added within the width, and taken off again
pub moved_field : (signed : Bool) (width bits : ℕ) → 1 ≤ width → bits < 2 ^ width
    → pos ((bits + half_range signed width) % 2 ^ width) -ℤ pos (half_range signed width) ≡ decoded signed width bits
moved_field signed width bits some small = grind (arith, mod-eq_of_lt, half_of, pow_pos, decoded_low, mod-eq-sub-mod, decoded_high, cases_lt)

-- no bit is turned by 0
xor_nothing : (n : ℕ) → bit_xor n 0 ≡ n
xor_nothing n = grind (arith, common_steps)

-- it is added by its bit alone
pub xored_half : (signed : Bool) (width bits : ℕ) → 1 ≤ width → bits < 2 ^ width → bit_xor bits (half_range signed width) ≡ (bits + half_range signed width) % 2 ^ width
xored_half false width bits some small = grind (arith, bit_xor, xor_nothing, mod-eq_of_lt)
xored_half true width bits some small =
    let double = half_of width some in
    let power = pow_pos (width - 1) in
    let half : ℕ = 2 ^ (width - 1) in
    ⊎_elim
    (λ (low : bits < 2 ^ (width - 1)).
    let fits : bits + 2 ^ (width - 1) < 2 ^ width = omega (arith, double) in
    let left : 0 * 2 ^ (width - 1) + bits ≡ bits = omega arith in
    let right : 1 * 2 ^ (width - 1) + 0 ≡ 2 ^ (width - 1) = omega arith in
    let block : bit_xor (0 * 2 ^ (width - 1) + bits) (1 * 2 ^ (width - 1) + 0) ≡ bit_xor 0 1 * 2 ^ (width - 1) + bit_xor bits 0 =
    xor_block (width - 1) 0 1 bits 0 low power in
    let one : bit_xor 0 1 * 2 ^ (width - 1) + bit_xor bits 0 ≡ bits + 2 ^ (width - 1) = omega (arith, xor_nothing bits) in
    grind (arith, bit_xor, mod-eq_of_lt))
    (λ (high : 2 ^ (width - 1) ≤ bits).
    let over : 2 ^ width ≤ bits + 2 ^ (width - 1) = omega (arith, double) in
    let fits : bits + 2 ^ (width - 1) - 2 ^ width < 2 ^ width = omega (arith, double) in
    let rest : ℕ = bits - 2 ^ (width - 1) in
    let left : 1 * 2 ^ (width - 1) + (bits - 2 ^ (width - 1)) ≡ bits = omega arith in
    let right : 1 * 2 ^ (width - 1) + 0 ≡ 2 ^ (width - 1) = omega arith in
    let block : bit_xor (1 * 2 ^ (width - 1) + (bits - 2 ^ (width - 1))) (1 * 2 ^ (width - 1) + 0) ≡ bit_xor 1 1 * 2 ^ (width - 1) + bit_xor (bits - 2 ^ (width - 1)) 0 =
    xor_block (width - 1) 1 1 (bits - 2 ^ (width - 1)) 0 (omega (arith, double)) power in
    let one : bit_xor 1 1 * 2 ^ (width - 1) + bit_xor (bits - 2 ^ (width - 1)) 0 ≡ bits + 2 ^ (width - 1) - 2 ^ width =
    omega (arith, double, xor_nothing (bits - 2 ^ (width - 1))) in grind (arith, bit_xor, mod-eq-sub-mod, mod-eq_of_lt))
    (cases_lt bits (2 ^ (width - 1)))
