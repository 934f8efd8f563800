-- What masks and shifts do to binary digits.
use Rattle.linearize.proofs.Imports.{◌≡◌, ℕ, ◌-◌, ◌*◌, ◌/◌, ◌%◌, ◌^◌, ◌<◌, ◌≤◌, max, min, Bool, true, cond, eqb, ltb, refl, sym, ap, ◌∙◌, ⊎_elim, arith, lit<, bit_and, bit_or, nat_le, bit_at, list_all, range_with_len, cases_lt, cond-true, cond-false, cond_both, eqb-true, eqb-false, ltb-true, ltb-false, leb-true, le-ltb, eq-eqb, All-get_or, length-range_with_len, AllPass-from_list_all, le-div, pow_pos, mul-le, and_le_r, bit_at-zero, bit_at-lt, bit_at_and, bit_at_or, bit_at_above, bit_at_cat_low, bit_at_cat_high, mod-eq_of_lt, pow-le-pow_right, at_own_place, IsSpread}

-- ---- one mask and shift

-- digit k of y is digit `source k` of x
abbrev pub Comes : (ℕ → ℕ) → ℕ → ℕ → Type 0
Comes source x y = (k : ℕ) → bit_at y k ≡ bit_at x (source k)

-- where digit k of `(y | y << s) & m` comes from: x has no digit from w on
abbrev pub moved : ℕ → ℕ → ℕ → (ℕ → ℕ) → ℕ → ℕ
moved w s m source k = cond (eqb (bit_at m k) 0) w (cond (ltb (source k) w) (source k) (cond (ltb k s) w (source (k - s))))

-- digit k comes from one place alone, if the mask keeps it
abbrev pub is_apart : ℕ → ℕ → ℕ → (ℕ → ℕ) → ℕ → Bool
is_apart w s m source k = cond (eqb (bit_at m k) 0) true (cond (ltb (source k) w) (cond (ltb k s) true (nat_le w (source (k - s)))) true)

-- each number below n passes a test
passes_below : (p : ℕ → Bool) (n k : ℕ) → list_all p (range_with_len 0 n) ≡ true → k < n → p k ≡ true
passes_below p n k all h =
    sym (ap p (at_own_place n k h)) ∙ All-get_or (λ x. p x ≡ true) (range_with_len 0 n) k 0 (omega (arith, h, length-range_with_len 0 n)) (AllPass-from_list_all p (range_with_len 0 n) all)

pub shifted_low : (y s k : ℕ) → k < s → bit_at (y * 2 ^ s) k ≡ 0
shifted_low y s k h = ap (λ n. bit_at n k) (omega arith) ∙ bit_at_cat_low y s 0 k h ∙ bit_at-zero k

pub shifted_high : (y s k : ℕ) → s ≤ k → bit_at (y * 2 ^ s) k ≡ bit_at y (k - s)
shifted_high y s k h = ap (λ n. bit_at n k) (omega arith) ∙ bit_at_cat_high y s 0 k (pow_pos s) h

moved_bit : (w s m : ℕ) (source : ℕ → ℕ) (x y k : ℕ) → x < 2 ^ w → Comes source x y → is_apart w s m source k ≡ true
    → min (max (bit_at y k) (bit_at (y * 2 ^ s) k)) (bit_at m k) ≡ bit_at x (moved w s m source k)
moved_bit w s m source x y k fits comes apart =
    let none : bit_at x w ≡ 0 = bit_at_above x w w fits (omega arith) in
    cond_both (eqb (bit_at m k) 0) w (cond (ltb (source k) w) (source k) (cond (ltb k s) w (source (k - s)))) (λ i. min (max (bit_at y k) (bit_at (y * 2 ^ s) k)) (bit_at m k) ≡ bit_at x i)
    (λ cut. omega (arith, eqb-true (bit_at m k) 0 cut, none))
    (λ kept.
    let apart_ne = eqb-false (bit_at m k) 0 kept in
    cond_both (ltb (source k) w) (source k) (cond (ltb k s) w (source (k - s))) (λ i. min (max (bit_at y k) (bit_at (y * 2 ^ s) k)) (bit_at m k) ≡ bit_at x i)
    (λ here.
    let alone : bit_at (y * 2 ^ s) k ≡ 0 =
    ⊎_elim (λ (l : k < s). shifted_low y s k l)
    (λ (l : s ≤ k).
    let away : nat_le w (source (k - s)) ≡ true =
    sym (cond-false (eqb (bit_at m k) 0) true (cond (ltb (source k) w) (cond (ltb k s) true (nat_le w (source (k - s)))) true) kept
    ∙ cond-true (ltb (source k) w) (cond (ltb k s) true (nat_le w (source (k - s)))) true here
    ∙ cond-false (ltb k s) true (nat_le w (source (k - s))) (le-ltb k s l))
    ∙ apart in
    shifted_high y s k l ∙ comes (k - s) ∙ bit_at_above x w (source (k - s)) fits (leb-true w (source (k - s)) away))
    (cases_lt k s) in
    omega (arith, alone, comes k, bit_at-lt x (source k)))
    (λ away.
    let nothing : bit_at y k ≡ 0 = comes k ∙ bit_at_above x w (source k) fits (ltb-false (source k) w away) in
    cond_both (ltb k s) w (source (k - s)) (λ i. min (max (bit_at y k) (bit_at (y * 2 ^ s) k)) (bit_at m k) ≡ bit_at x i)
    (λ below. omega (arith, nothing, none, shifted_low y s k (ltb-true k s below)))
    (λ from. omega (arith, nothing, shifted_high y s k (ltb-false k s from), comes (k - s), bit_at-lt x (source (k - s))))))

-- y has the digits of x, each at its place, and x has no digit from w on
pub record IsStage (w : ℕ) (source : ℕ → ℕ) (x y : ℕ) : Type 0 where
  pub narrow : x < 2 ^ w
  pub small : y < 2 ^ 24
  pub comes : Comes source x y

pub stage_none : (w x : ℕ) → x < 2 ^ w → w ≤ 24 → IsStage w (λ k. k) x x
stage_none w x narrow few = grind (arith, pow-le-pow_right, lit<)

-- one stage more: `(y | y << s) & m`
pub stage_more : {w : ℕ} {source : ℕ → ℕ} {x y : ℕ} (s m : ℕ) → IsStage w source x y → m < 2 ^ 24 → s ≤ 12 → list_all (is_apart w s m source) (range_with_len 0 24) ≡ true
    → IsStage w (moved w s m source) x (bit_and (bit_or y (y * 2 ^ s % 2 ^ 64)) m)
stage_more {w} {source} {x} {y} s m h small short apart =
    let shift : 2 ^ s ≤ 2 ^ 12 = pow-le-pow_right {n = 2} (lit< tt) short in
    let whole : y * 2 ^ s < 2 ^ 64 = omega (arith, mul-le y (2 ^ s) (2 ^ 24) (2 ^ 12) (omega (arith, h.small)) shift) in
    record {
      narrow = h.narrow;
      small = omega (arith, and_le_r (bit_or y (y * 2 ^ s % 2 ^ 64)) m, small);
      comes = λ k.
          let apart_here : is_apart w s m source k ≡ true =
          ⊎_elim (λ (l : k < 24). passes_below (is_apart w s m source) 24 k apart l)
          (λ (l : 24 ≤ k). cond-true (eqb (bit_at m k) 0) true (cond (ltb (source k) w) (cond (ltb k s) true (nat_le w (source (k - s)))) true) (eq-eqb (bit_at m k) 0 (bit_at_above m 24 k small l)))
          (cases_lt k 24) in
          ap (λ z. bit_at (bit_and (bit_or y z) m) k) (mod-eq_of_lt whole)
          ∙ bit_at_and (bit_or y (y * 2 ^ s)) m k
          ∙ ap (λ z. min z (bit_at m k)) (bit_at_or y (y * 2 ^ s) k)
          ∙ moved_bit w s m source x y k h.narrow h.comes apart_here;
    }

-- the digits lie where they are to lie
abbrev pub is_there : ℕ → ℕ → (ℕ → ℕ) → ℕ → Bool
is_there rank w source k = eqb (source k) (cond (eqb (k % rank) 0) (k / rank) w)

pub stage_last : {w : ℕ} {source : ℕ → ℕ} {x y : ℕ} (rank : ℕ) → IsStage w source x y → 0 < rank → rank * w ≡ 24 → list_all (is_there rank w source) (range_with_len 0 24) ≡ true → IsSpread rank x y
stage_last {w} {source} {x} {y} rank h some wide there = λ k.
    ⊎_elim (λ (l : k < 24).
    h.comes k
    ∙ ap (bit_at x) (eqb-true (source k) (cond (eqb (k % rank) 0) (k / rank) w) (passes_below (is_there rank w source) 24 k there l))
    ∙ cond_both (eqb (k % rank) 0) (bit_at x (k / rank)) 0 (λ v. bit_at x (cond (eqb (k % rank) 0) (k / rank) w) ≡ v)
    (λ e. ap (bit_at x) (cond-true (eqb (k % rank) 0) (k / rank) w e))
    (λ e. ap (bit_at x) (cond-false (eqb (k % rank) 0) (k / rank) w e) ∙ bit_at_above x w w h.narrow (omega arith)))
    (λ (l : 24 ≤ k).
    bit_at_above y 24 k h.small l
    ∙ cond_both (eqb (k % rank) 0) (bit_at x (k / rank)) 0 (λ v. 0 ≡ v)
    (λ _. sym (bit_at_above x w (k / rank) h.narrow (le-div w k rank some (omega (arith, wide, l)))))
    (λ _. refl))
    (cases_lt k 24)
