-- A field of bits within a word: how it is read and written by shifts and masks.
use Rattle.std.specs.Prelude.{◌≡◌, ℕ, ◌+◌, ◌*◌, ◌-◌, ◌/◌, ◌%◌, ◌^◌, ◌<◌, ◌≤◌, min, max, bit_and, bit_or}
use Rattle.record_dim.specs.Std.{w64, sym, ap, ◌∙◌, subst, ⊎_elim, arith, bit_at, bit_not, pow_pos, pow-add, and_mask, and_le_l, or_lt, shl_below, shl_whole, bit_at_and, bit_at_or, bit_at_not, bit_at-lt, bit_at_above, bit_at-zero, bit_at_cat_low, bit_at_cat_high, bit_at_mask_inside, bit_at_mask_below, bit_at_mask_above, cases_lt, mul_comm, mul-sub, pow_mono}
use Rattle.places.specs.Prelude.{ones_of}

pub read_field : (word low n : ℕ) → n ≤ 64 → bit_and (word / 2 ^ low) (18446744073709551615 / 2 ^ (64 - n)) ≡ word / 2 ^ low % 2 ^ n
read_field word low n few = grind (arith, bit_and, ones_of, and_mask)

-- the mask of a field
pub mask_is : (low n : ℕ) → low + n ≤ 64 → (18446744073709551615 / 2 ^ (64 - n)) * 2 ^ low % 2 ^ 64 ≡ 2 ^ (low + n) - 2 ^ low
mask_is low n within =
    let few : n ≤ 64 = omega arith in
    let below : 2 ^ n - 1 < 2 ^ n = omega (arith, pow_pos n) in
    let whole : (2 ^ n - 1) * 2 ^ low % 2 ^ 64 ≡ (2 ^ n - 1) * 2 ^ low = shl_whole (2 ^ n - 1) n low 64 below (omega arith) in
    let power : 2 ^ (low + n) ≡ 2 ^ low * 2 ^ n = pow-add 2 low n in
    let turned : (2 ^ n - 1) * 2 ^ low ≡ 2 ^ low * 2 ^ n - 2 ^ low * 1 =
    mul_comm (2 ^ n - 1) (2 ^ low) ∙ mul-sub (2 ^ low) (2 ^ n) 1 in
    let less : (2 ^ n - 1) * 2 ^ low ≡ 2 ^ (low + n) - 2 ^ low = omega arith in
    ap (λ (w : ℕ). w * 2 ^ low % 2 ^ 64) (ones_of n few) ∙ whole ∙ less

-- a word with a value in a field of it
abbrev pub with_field : (word low n value : ℕ) → ℕ
with_field word low n value =
    bit_or (bit_and word (18446744073709551615 - (18446744073709551615 / 2 ^ (64 - n)) * 2 ^ low % 18446744073709551616)) (value * 2 ^ low % 18446744073709551616)

-- the low bits of a shifted number are 0, and the others are the number's
shifted_low : (value low k : ℕ) → k < low → bit_at (value * 2 ^ low) k ≡ 0
shifted_low value low k h =
    let e : value * 2 ^ low ≡ value * 2 ^ low + 0 = omega arith in
    ap (λ (w : ℕ). bit_at w k) e ∙ bit_at_cat_low value low 0 k h ∙ bit_at-zero k

shifted_high : (value low k : ℕ) → bit_at (value * 2 ^ low) (low + k) ≡ bit_at value k
shifted_high value low k =
    let e : value * 2 ^ low ≡ value * 2 ^ low + 0 = omega arith in
    let f : low + k - low ≡ k = omega arith in
    ap (λ (w : ℕ). bit_at w (low + k)) e ∙ bit_at_cat_high value low 0 (low + k) (pow_pos low) (omega arith) ∙ ap (bit_at value) f

module _ (word low n value : ℕ) (within : low + n ≤ 64) (word_fits : word < 2 ^ 64) (fits : value < 2 ^ n) where
  mask_fits : 2 ^ (low + n) - 2 ^ low < 2 ^ 64
  mask_fits = grind (arith, pow_mono, pow_pos)

  field_shape : with_field word low n value ≡ bit_or (bit_and word (bit_not w64 (2 ^ (low + n) - 2 ^ low))) (value * 2 ^ low)
  field_shape =
      let whole : value * 2 ^ low % 2 ^ 64 ≡ value * 2 ^ low = shl_whole value n low 64 fits (omega arith) in
      grind (arith, bit_or, bit_and, mask_is, bit_not)

  field_bit : (k : ℕ) → k < 64 → bit_at (with_field word low n value) k ≡ max (min (bit_at word k) (1 - bit_at (2 ^ (low + n) - 2 ^ low) k)) (bit_at (value * 2 ^ low) k)
  field_bit k h =
      let kept = bit_not w64 (2 ^ (low + n) - 2 ^ low) in
      ap (λ (w : ℕ). bit_at w k) field_shape
      ∙ bit_at_or (bit_and word kept) (value * 2 ^ low) k
      ∙ ap (λ (w : ℕ). max w (bit_at (value * 2 ^ low) k)) (bit_at_and word kept k ∙ ap (min (bit_at word k)) (bit_at_not w64 (2 ^ (low + n) - 2 ^ low) k mask_fits h))

  pub field_small : (m : ℕ) → low + n ≤ m → word < 2 ^ m → with_field word low n value < 2 ^ m
  field_small m more word_small =
      let kept = bit_not w64 (2 ^ (low + n) - 2 ^ low) in
      let left : bit_and word kept < 2 ^ m = omega (arith, and_le_l word kept) in
      let shifted : value * 2 ^ low < 2 ^ (n + low) = shl_below value n low fits in
      let order : n + low ≤ m = omega arith in
      let wider : 2 ^ (n + low) ≤ 2 ^ m = pow_mono order in
      subst (λ (w : ℕ). w < 2 ^ m) (sym field_shape) (or_lt m (bit_and word kept) (value * 2 ^ low) left (omega arith))

  pub field_inside : (k : ℕ) → k < n → bit_at (with_field word low n value) (low + k) ≡ bit_at value k
  field_inside k h = grind (arith, bit_at, bit_at_mask_inside, field_bit, shifted_high)

  pub field_before : (k : ℕ) → k < low → bit_at (with_field word low n value) k ≡ bit_at word k
  field_before k h = grind (arith, bit_at, bit_at_mask_below, field_bit, shifted_low, bit_at-lt)

  field_between : (k : ℕ) → low + n ≤ k → k < 64 → bit_at (with_field word low n value) k ≡ bit_at word k
  field_between k h l =
      let none : bit_at (2 ^ (low + n) - 2 ^ low) k ≡ 0 = bit_at_mask_above low (low + n) k h in
      let shifted : value * 2 ^ low < 2 ^ (n + low) = shl_below value n low fits in
      let above : bit_at (value * 2 ^ low) k ≡ 0 = bit_at_above (value * 2 ^ low) (n + low) k shifted (omega arith) in
      omega (arith, field_bit k l, bit_at-lt word k)

  pub field_after : (k : ℕ) → low + n ≤ k → bit_at (with_field word low n value) k ≡ bit_at word k
  field_after k h =
      ⊎_elim (λ (l : k < 64). field_between k h l)
      (λ (l : 64 ≤ k). bit_at_above (with_field word low n value) 64 k (field_small 64 within word_fits) l ∙ sym (bit_at_above word 64 k word_fits l))
      (cases_lt k 64)
