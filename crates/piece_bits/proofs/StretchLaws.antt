-- Where the rows of a stretch lie.
use Rattle.piece_bits.proofs.Imports.{◌≡◌, ◌≢◌, ℕ, ◌+◌, ◌-◌, ◌*◌, ◌/◌, ◌%◌, ◌^◌, ◌<◌, ◌≤◌, w64, true, false, min, refl, sym, ap, ◌∙◌, subst, ⊎_elim, arith, lit<, [], ◌∷◌, bit_at, trailing_zeros, mod-eq_of_lt, mul_assoc, pow-le-pow_right, cases_lt, mod_below, pow_pos, shr_split, pow-add, div-mul-add, mod-mul-add, div-add-mod', bit_at-zero, bit_at_above, bit_at_cat_low, bit_at-trailing_zeros, same_from_bits, line_same, column_on, columns_apart, Scattered, place_by, slot_in, start_in, interleaved, offset_by, spread_power, IsStretch, leads, walks_in_blocks, slot_by, ShortRule, Spread, Even, Blocks, Digits, Stretch, Walk}
use Rattle.piece_bits.specs.declared.walk.Walk.TheVariants as walk

-- ---- the place of a slot so many further on

-- in blocks of one slot
single_apart : (base block lane power slot more : ℕ) → power ≡ 0
    → place_by base block lane power (slot + more) ≡ place_by base block lane power slot + more * block
single_apart base block lane power slot more single = grind arith

-- in the same block
lanes_apart : (base block lane power slot more : ℕ) → slot % 2 ^ power + more < 2 ^ power
    → place_by base block lane power (slot + more) ≡ place_by base block lane power slot + more * lane
lanes_apart base block lane power slot more room =
    let split : (slot % 2 ^ power + more) * lane ≡ slot % 2 ^ power * lane + more * lane = grind arith in grind (arith, line_same, column_on)

-- ---- by the walk

-- so many rows, from one on, lie alike far apart
pub record AreSteps (short : ShortRule) (row apart : ℕ) (way : Spread) (rows : ℕ) : Type 0 where
  pub some : 0 < rows
  pub low : spread_power way < 64
  pub digits : way ≡ Digits → rows ≤ 16
  pub place : (k : ℕ) → k < rows → start_in short (row + k) ≡ start_in short row + offset_by way apart k

-- they are a stretch, as far as rows are wanted
pub steps_stretch : (short : ShortRule) (row most rows : ℕ) (s : Stretch) → leads short.walk ≡ true → short.word ≢ Scattered → 0 < most
    → s.start ≡ start_in short row → s.rows ≡ min rows most → AreSteps short row s.apart s.spread rows → IsStretch short row most s
steps_stretch short row most rows s some alone wanted start count steps = grind arith

-- in blocks of one slot, where the slots lie alike far apart
single_steps : (short : ShortRule) (row apart rows : ℕ) (way : Spread) (more : ℕ → ℕ) → walks_in_blocks short.walk ≡ false → 0 < rows
    → spread_power way < 64 → (way ≡ Digits → rows ≤ 16) → ((k : ℕ) → k < rows → slot_in short (row + k) ≡ slot_in short row + more k)
    → ((k : ℕ) → more k * short.block ≡ offset_by way apart k) → AreSteps short row apart way rows
single_steps short row apart rows way more single some low few slots places = record {
  some = some;
  low = low;
  digits = few;
  place = λ k inside.
      ap (λ (slot : ℕ). place_by short.base short.block short.lane short.power slot) (slots k inside)
      ∙ single_apart short.base short.block short.lane short.power (slot_in short row) (more k) (short.single single)
      ∙ ap (λ (n : ℕ). start_in short row + n) (places k);
}

-- the slots of a walk are those of another name of it
slots_by : (short : ShortRule) (way : Walk) (row k more : ℕ) → short.walk ≡ way
    → slot_by way short.lines short.columns.columns (row + k) ≡ slot_by way short.lines short.columns.columns row + more
    → slot_in short (row + k) ≡ slot_in short row + more
slots_by short way row k more is h = grind arith

pub plain_steps : (short : ShortRule) (row rows : ℕ) → short.walk ≡ walk.Plain → 0 < rows → AreSteps short row short.block Even rows
plain_steps short row rows is some = grind (arith, single_steps, lit<, slots_by)

-- in blocks the slot of a row is the row
row_is : (short : ShortRule) (row : ℕ) → short.walk ≡ walk.Blocks → slot_in short row ≡ row
row_is short row is = ap (λ (w : Walk). slot_by w short.lines short.columns.columns row) is

pub block_steps : (short : ShortRule) (row rows : ℕ) → short.walk ≡ walk.Blocks → row % 2 ^ short.power + rows ≡ 2 ^ short.power
    → AreSteps short row short.lane Even rows
block_steps short row rows is left = record {
  some = omega (arith, left, mod_below row (2 ^ short.power) (pow_pos short.power));
  low = lit< tt;
  digits = λ e. cc;
  place = λ k inside.
      ap (λ (slot : ℕ). place_by short.base short.block short.lane short.power slot) (slots_by short walk.Blocks row k k is refl)
      ∙ ap (λ (slot : ℕ). place_by short.base short.block short.lane short.power (slot + k)) (row_is short row is)
      ∙ lanes_apart short.base short.block short.lane short.power row k (omega (arith, left, inside))
      ∙ ap (λ (slot : ℕ). place_by short.base short.block short.lane short.power slot + k * short.lane) (sym (row_is short row is));
}

-- so many slots on from the first of a block
blocks_apart : (base block lane power slot more : ℕ) → slot % 2 ^ power ≡ 0
    → place_by base block lane power (slot + more) ≡ place_by base block lane power slot + (more / 2 ^ power * block + more % 2 ^ power * lane)
blocks_apart base block lane power slot more begin =
    let size : ℕ = 2 ^ power in
    let turns : ℕ = slot / size + more / size in
    let below : more % size < size = mod_below more size (pow_pos power) in
    let sum : turns * size ≡ slot / size * size + more / size * size = grind arith in
    let parts : slot + more ≡ turns * size + more % size = omega (arith, begin, sum, div-add-mod' slot size, div-add-mod' more size) in
    let split : turns * block ≡ slot / size * block + more / size * block = grind arith in
    let none : slot % size * lane ≡ 0 * lane = ap (λ (n : ℕ). n * lane) begin in grind (arith, div-mul-add, mod-mul-add)

pub blocks_steps : (short : ShortRule) (row rows : ℕ) → short.walk ≡ walk.Blocks → row % 2 ^ short.power ≡ 0 → 0 < rows
    → AreSteps short row short.lane (Blocks short.power short.block) rows
blocks_steps short row rows is begin some = record {
  some = some;
  low = short.low;
  digits = λ e. cc;
  place = λ k inside.
      ap (λ (slot : ℕ). place_by short.base short.block short.lane short.power slot) (slots_by short walk.Blocks row k k is refl)
      ∙ ap (λ (slot : ℕ). place_by short.base short.block short.lane short.power (slot + k)) (row_is short row is)
      ∙ blocks_apart short.base short.block short.lane short.power row k begin
      ∙ ap (λ (slot : ℕ). place_by short.base short.block short.lane short.power slot + (k / 2 ^ short.power * short.block + k % 2 ^ short.power * short.lane)) (sym (row_is short row is));
}

-- eight rows of a block of eight and more lie evenly
eight_in : (power eight j : ℕ) → 3 ≤ power → j < 8 → 8 * eight % 2 ^ power + j < 2 ^ power
eight_in power eight j some few =
    let size : ℕ = 2 ^ (power - 3) in
    let sum : 3 + (power - 3) ≡ power = omega arith in
    let whole : 2 ^ power ≡ 8 * size = ap (λ (n : ℕ). 2 ^ n) (sym sum) ∙ pow-add 2 3 (power - 3) in
    let below : eight % size < size = mod_below eight size (pow_pos (power - 3)) in
    let under : 8 * (eight % size) < 8 * size = omega (arith, below) in
    let times : eight / size * (8 * size) ≡ 8 * (eight / size * size) = grind arith in
    let parts : 8 * eight ≡ eight / size * (8 * size) + 8 * (eight % size) = omega (arith, times, div-add-mod' eight size) in
    let rest : 8 * eight % (8 * size) ≡ 8 * (eight % size) = ap (λ (n : ℕ). n % (8 * size)) parts ∙ mod-mul-add (eight / size) (8 * size) (8 * (eight % size)) under in
    subst (λ (n : ℕ). 8 * eight % n + j < n) (sym whole) (omega (arith, rest, below, few))

pub even_blocks : (power block apart eight j : ℕ) → 3 ≤ power → j < 8
    → offset_by (Blocks power block) apart (8 * eight + j) ≡ offset_by (Blocks power block) apart (8 * eight) + j * apart
even_blocks power block apart eight j some few =
    let room : 8 * eight % 2 ^ power + j < 2 ^ power = eight_in power eight j some few in
    let split : (8 * eight % 2 ^ power + j) * apart ≡ 8 * eight % 2 ^ power * apart + j * apart = grind arith in grind (arith, line_same, column_on)

pub column_steps : (short : ShortRule) (row apart rows : ℕ) → short.walk ≡ walk.Columns → apart ≡ short.lines * short.block
    → row % short.columns.columns + rows ≡ short.columns.columns → AreSteps short row apart Even rows
column_steps short row apart rows is far left =
    let columns : ℕ = short.columns.columns in
    single_steps short row apart rows Even (λ k. k * short.lines) (ap walks_in_blocks is) (omega (arith, left, mod_below row columns short.columns.some)) (lit< tt) (λ e. cc)
    (λ k inside. slots_by short walk.Columns row k (k * short.lines) is (columns_apart row columns k (omega (arith, left, inside)) short.lines))
    (λ k. mul_assoc k short.lines short.block ∙ ap (λ (n : ℕ). k * n) (sym far))

pub digit_steps : (short : ShortRule) (row rows : ℕ) → short.walk ≡ walk.Morton → 0 < rows → rows ≤ 16
    → ((k : ℕ) → k < rows → slot_by walk.Morton short.lines short.columns.columns (row + k)
    ≡ slot_by walk.Morton short.lines short.columns.columns row + interleaved (0 ∷ k ∷ [])) → AreSteps short row short.block Digits rows
digit_steps short row rows is some few slots =
    single_steps short row short.block rows Digits (λ k. interleaved (0 ∷ k ∷ [])) (ap walks_in_blocks is) some (lit< tt) (λ _. few)
    (λ k inside. slots_by short walk.Morton row k (interleaved (0 ∷ k ∷ [])) is (slots k inside)) (λ k. refl)

-- ---- Morton order

-- a number whose last digits are 0 is a multiple of a power of two
even_below : (n power : ℕ) → ((b : ℕ) → b < power → bit_at n b ≡ 0) → n % 2 ^ power ≡ 0
even_below n power none =
    same_from_bits (n % 2 ^ power) 0 (λ b. grind (arith, bit_at_cat_low, bit_at, shr_split, bit_at-zero, bit_at_above, mod_below, pow_pos, cases_lt))

pub twos_divide : (n power : ℕ) → n < 2 ^ 64 → power ≤ trailing_zeros w64 n → n % 2 ^ power ≡ 0
twos_divide n power small few =
    even_below n power (λ b low.
    ⊎_elim
    (λ (none : n < 1). ap (λ (m : ℕ). bit_at m b) (omega arith) ∙ bit_at-zero b)
    (λ (some : 1 ≤ n). (bit_at-trailing_zeros w64 n (omega arith) small).2 b (omega (arith, low, few)))
    (cases_lt n 1))

-- a shift by few digits
module _ (digits : ℕ) (few : digits ≤ 4) where
  pub sixteen : 2 ^ digits ≤ 2 ^ 4
  sixteen = pow-le-pow_right {n = 2} (lit< tt) few

  pub shifted : 1 * 2 ^ digits % 2 ^ 64 ≡ 2 ^ digits
  shifted = grind (arith, mod-eq_of_lt, sixteen)
