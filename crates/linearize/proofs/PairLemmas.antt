-- Two components in one word, the first in its upper half: a mask and a shift move the digits of both apart.
use Rattle.linearize.proofs.Imports.{◌≡◌, ℕ, ◌+◌, ◌-◌, ◌*◌, ◌/◌, ◌%◌, ◌^◌, ◌<◌, ◌≤◌, max, min, true, eqb, [], ◌∷◌, refl, sym, ap, ◌∙◌, ⊎_elim, arith, lit<, bit_and, bit_or, bit_at, list_all, range_with_len, cases_lt, cond_both, eqb-true, mul-le, and_le_r, and_mask, mod_below, shr_split, bit_at_and, bit_at_or, bit_at_above, bit_at_cat_low, bit_at_cat_high, same_from_bits, mod-eq_of_lt, pow-le-pow_right, interleaved, IsSpread, below_from_digits}
use Rattle.linearize.proofs.SpreadLemmas.{moved, is_apart, is_there, IsStage, stage_more, stage_last}
use Rattle.linearize.proofs.MortonLemmas.{two_in_turn}

-- one mask and shift
abbrev step : ℕ → ℕ → ℕ → ℕ
step s m y = bit_and (bit_or y (y * 2 ^ s % 2 ^ 64)) m

-- digit k of it
step_bit : (s m y k : ℕ) → y * 2 ^ s < 2 ^ 64 → bit_at (step s m y) k ≡ min (max (bit_at y k) (bit_at (y * 2 ^ s) k)) (bit_at m k)
step_bit s m y k whole = grind (arith, bit_at, bit_and, bit_or, mod-eq_of_lt, bit_at_and, bit_at_or)

-- what fits where
shift_fits : (y s : ℕ) → y < 2 ^ 24 → s ≤ 8 → y * 2 ^ s < 2 ^ 32
shift_fits y s small short = grind (arith, pow-le-pow_right, lit<, mul-le)

-- no digit is carried from the lower half into the upper
pub step_pair : (s m a b : ℕ) → a < 2 ^ 24 → b < 2 ^ 24 → s ≤ 8 → m < 2 ^ 24 → step s (m * 2 ^ 32 + m) (a * 2 ^ 32 + b) ≡ step s m a * 2 ^ 32 + step s m b
step_pair s m a b high low short small =
    let a_fits : a * 2 ^ s < 2 ^ 32 = shift_fits a s high short in
    let b_fits : b * 2 ^ s < 2 ^ 32 = shift_fits b s low short in
    let both : (a * 2 ^ 32 + b) * 2 ^ s ≡ a * 2 ^ s * 2 ^ 32 + b * 2 ^ s = omega arith in
    let part : step s m b < 2 ^ 32 = omega (arith, and_le_r (bit_or b (b * 2 ^ s % 2 ^ 64)) m, small) in
    let b_small : b < 2 ^ 32 = omega (arith, low) in
    same_from_bits (step s (m * 2 ^ 32 + m) (a * 2 ^ 32 + b)) (step s m a * 2 ^ 32 + step s m b) (λ k.
    step_bit s (m * 2 ^ 32 + m) (a * 2 ^ 32 + b) k (omega (arith, both, a_fits, b_fits))
    ∙ ap (λ (n : ℕ). min (max (bit_at (a * 2 ^ 32 + b) k) (bit_at n k)) (bit_at (m * 2 ^ 32 + m) k)) both
    ∙ ⊎_elim
    (λ (l : k < 32).
    ap (λ (n : ℕ). min (max n (bit_at (a * 2 ^ s * 2 ^ 32 + b * 2 ^ s) k)) (bit_at (m * 2 ^ 32 + m) k)) (bit_at_cat_low a 32 b k l)
    ∙ ap (λ (n : ℕ). min (max (bit_at b k) n) (bit_at (m * 2 ^ 32 + m) k)) (bit_at_cat_low (a * 2 ^ s) 32 (b * 2 ^ s) k l)
    ∙ ap (λ (n : ℕ). min (max (bit_at b k) (bit_at (b * 2 ^ s) k)) n) (bit_at_cat_low m 32 m k l)
    ∙ sym (bit_at_cat_low (step s m a) 32 (step s m b) k l ∙ step_bit s m b k (omega (arith, b_fits))))
    (λ (l : 32 ≤ k).
    ap (λ (n : ℕ). min (max n (bit_at (a * 2 ^ s * 2 ^ 32 + b * 2 ^ s) k)) (bit_at (m * 2 ^ 32 + m) k)) (bit_at_cat_high a 32 b k b_small l)
    ∙ ap (λ (n : ℕ). min (max (bit_at a (k - 32)) n) (bit_at (m * 2 ^ 32 + m) k)) (bit_at_cat_high (a * 2 ^ s) 32 (b * 2 ^ s) k b_fits l)
    ∙ ap (λ (n : ℕ). min (max (bit_at a (k - 32)) (bit_at (a * 2 ^ s) (k - 32))) n) (bit_at_cat_high m 32 m k (omega (arith, small)) l)
    ∙ sym (bit_at_cat_high (step s m a) 32 (step s m b) k part l ∙ step_bit s m a (k - 32) (omega (arith, a_fits))))
    (cases_lt k 32))

-- two components side by side, their digits each at its place
pub record ArePaired (w : ℕ) (source : ℕ → ℕ) (line column y : ℕ) : Type 0 where
  pub upper : ℕ
  pub lower : ℕ
  pub first : IsStage w source line upper
  pub second : IsStage w source column lower
  pub is : y ≡ upper * 2 ^ 32 + lower

pub pair_more : {w : ℕ} {source : ℕ → ℕ} {line column y : ℕ} (s m both : ℕ) → ArePaired w source line column y → both ≡ m * 2 ^ 32 + m → m < 2 ^ 24 → s ≤ 8
    → list_all (is_apart w s m source) (range_with_len 0 24) ≡ true → ArePaired w (moved w s m source) line column (step s both y)
pair_more {w} {source} {line} {column} {y} s m both h twice small short apart = record {
  upper = step s m h.upper;
  lower = step s m h.lower;
  first = stage_more s m h.first small (omega arith) apart;
  second = stage_more s m h.second small (omega arith) apart;
  is = ap (λ (n : ℕ). step s n y) twice ∙ ap (step s (m * 2 ^ 32 + m)) h.is ∙ step_pair s m h.upper h.lower h.first.small h.second.small short small;
}

-- digits two apart leave out the highest place
spread_below : (w x a : ℕ) → 2 * w ≡ 24 → x < 2 ^ w → IsSpread 2 x a → a < 2 ^ 23
spread_below w x a wide narrow spread =
    below_from_digits a 23 (λ k from.
    spread k
    ∙ cond_both (eqb (k % 2) 0) (bit_at x (k / 2)) 0 (λ v. v ≡ 0)
    (λ e. let even : k % 2 ≡ 0 = eqb-true (k % 2) 0 e in bit_at_above x w (k / 2) narrow (omega arith))
    (λ _. refl))

-- a low digit of what a mask leaves
low_bit : (n w k : ℕ) → k < w → bit_at (n % 2 ^ w) k ≡ bit_at n k
low_bit n w k l = sym (bit_at_cat_low (n / 2 ^ w) w (n % 2 ^ w) k l) ∙ ap (λ m. bit_at m k) (shr_split n w)

-- the upper half moved down between the digits of the lower
pub pair_last : {w : ℕ} {source : ℕ → ℕ} {line column y : ℕ} → ArePaired w source line column y → 2 * w ≡ 24
    → list_all (is_there 2 w source) (range_with_len 0 24) ≡ true → bit_and (bit_or y (y / 2 ^ 31)) (2 ^ 24 - 1) ≡ interleaved (line ∷ column ∷ [])
pair_last {w} {source} {line} {column} {y} h wide there =
    let a : ℕ = h.upper in
    let b : ℕ = h.lower in
    let one : IsSpread 2 line a = stage_last 2 h.first (omega arith) wide there in
    let two : IsSpread 2 column b = stage_last 2 h.second (omega arith) wide there in
    let a_small : a < 2 ^ 24 = h.first.small in
    let b_small : b < 2 ^ 24 = h.second.small in
    ap (λ (n : ℕ). bit_and (bit_or y n) (2 ^ 24 - 1)) (omega (arith, h.is, b_small)) ∙ ap (λ (n : ℕ). bit_and (bit_or n (a * 2)) (2 ^ 24 - 1)) h.is
    ∙ same_from_bits (bit_and (bit_or (a * 2 ^ 32 + b) (a * 2)) (2 ^ 24 - 1)) (bit_or (a * 2) b) (λ k.
    ap (λ (n : ℕ). bit_at n k) (and_mask (bit_or (a * 2 ^ 32 + b) (a * 2)) 24)
    ∙ ⊎_elim
    (λ (l : k < 24).
    low_bit (bit_or (a * 2 ^ 32 + b) (a * 2)) 24 k l ∙ bit_at_or (a * 2 ^ 32 + b) (a * 2) k
    ∙ ap (λ (n : ℕ). max n (bit_at (a * 2) k)) (bit_at_cat_low a 32 b k (omega arith))
    ∙ (omega arith) ∙ sym (bit_at_or (a * 2) b k))
    (λ (l : 24 ≤ k).
    let none : bit_at (a * 2) k ≡ 0 = bit_at_above (a * 2) 24 k (omega (arith, (spread_below w line a wide h.first.narrow one))) l in
    let nothing : bit_at (bit_or (a * 2) b) k ≡ 0 = bit_at_or (a * 2) b k ∙ (omega (arith, none, (bit_at_above b 24 k b_small l))) in
    bit_at_above (bit_or (a * 2 ^ 32 + b) (a * 2) % 2 ^ 24) 24 k (mod_below (bit_or (a * 2 ^ 32 + b) (a * 2)) (2 ^ 24) (lit< tt)) l ∙ sym nothing)
    (cases_lt k 24))
    ∙ (ap (λ (n : ℕ). bit_or n b) (sym (mod-eq_of_lt (omega (arith, a_small)))) ∙ two_in_turn line column a b a_small b_small one two)
