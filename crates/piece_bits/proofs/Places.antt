-- Where pieces begin, by slots.
use Rattle.piece_bits.proofs.Imports.{◌≡◌, ℕ, ◌+◌, ◌-◌, ◌*◌, ◌/◌, ◌%◌, ◌^◌, ◌<◌, ◌≤◌, bit_and, ap, ◌∙◌, arith, and_mask, pow_pos, div-lt_iff_lt-mul, div-mul-le_self, mod-lt, mul-le-mul_right, Piece}

-- the place in a block of a power of two is what a mask leaves
pub masked_slot : (slot power mask lane : ℕ) → mask ≡ 2 ^ power - 1 → bit_and slot mask * lane ≡ slot % 2 ^ power * lane
masked_slot slot power mask lane is = ap (λ (n : ℕ). bit_and slot n * lane) is ∙ ap (λ (n : ℕ). n * lane) (and_mask slot power)

-- the steps of rules that go from slot to slot alike
pub same_steps : (slot lanes lanes' block block' lane lane' : ℕ) → lanes ≡ lanes' → block ≡ block' → lane ≡ lane'
    → slot / lanes * block + slot % lanes * lane ≡ slot / lanes' * block' + slot % lanes' * lane'
same_steps slot lanes lanes' block block' lane lane' one two three = grind arith

-- pieces of the same parts
pub same_piece : (blob blob' bit bit' bits bits' : ℕ) → blob ≡ blob' → bit ≡ bit' → bits ≡ bits'
    → (let p : Piece = record { blob = blob; bit = bit; bits = bits } in p) ≡ (let p : Piece = record { blob = blob'; bit = bit'; bits = bits' } in p)
same_piece blob blob' bit bit' bits bits' one two three = grind arith

-- the steps of a rule of whole bytes, in blocks of a power of two
pub byte_steps : (block lane slot lanes power : ℕ) → block % 8 ≡ 0 → lane % 8 ≡ 0 → lanes ≡ 2 ^ power
    → slot / lanes * block + slot % lanes * lane ≡ 8 * (slot / 2 ^ power * (block / 8) + slot % 2 ^ power * (lane / 8))
byte_steps block lane slot lanes power whole_block whole_lane is =
    let q : ℕ = slot / 2 ^ power in
    let r : ℕ = slot % 2 ^ power in
    let blocks : slot / lanes * block ≡ q * block = ap (λ (n : ℕ). slot / n * block) is in
    let lanes' : slot % lanes * lane ≡ r * lane = ap (λ (n : ℕ). slot % n * lane) is in
    let block' : q * block ≡ q * (8 * (block / 8)) = ap (λ (n : ℕ). q * n) (omega arith) in
    let lane' : r * lane ≡ r * (8 * (lane / 8)) = ap (λ (n : ℕ). r * n) (omega arith) in
    omega arith

-- the slots of so many whole blocks begin at a place or before it, where those of the last block do
pub slots_before : (base block lane power mask ahead last room blocks slots slot : ℕ) → 0 < block → mask ≡ 2 ^ power - 1 → ahead ≡ mask * lane + base
    → room + ahead ≡ last → blocks ≡ room / block + 1 → slots ≡ blocks * 2 ^ power → slot < slots
    → base + slot / 2 ^ power * block + slot % 2 ^ power * lane ≤ last
slots_before base block lane power mask ahead last room blocks slots slot some masked before end count all inside = grind (arith, pow_pos, div-lt_iff_lt-mul, mul-le-mul_right, div-mul-le_self, mod-lt)
