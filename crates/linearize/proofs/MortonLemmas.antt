-- How many binary digits there are, and what the loop over components keeps of them.
use Rattle.linearize.proofs.Imports.{◌≡◌, ◌≢◌, ℕ, ◌+◌, ◌-◌, ◌*◌, ◌/◌, ◌%◌, ◌^◌, ◌<◌, ◌≤◌, max, cond, eqb, ltb, List, [], ◌∷◌, length, get_or, sym, ap, ◌∙◌, ⊎_elim, arith, lit<, fold, nat_le, bit_or, bit_at, or_zero_l, position_or_len, range_with_len, cases_lt, cases_eq, cond-true, cond-false, lt-leb, le-leb, lt-ltb, le-ltb, eq-eqb, ne_eqb, length_all_zip, length-range_with_len, position_or_len_is, div-add-mod', div-mul-add, mod-mul-add, mul-le, le-div, pow_pos, pow_below, bit_at-zero, bit_at_or, same_from_bits, pow_more, pow-le-pow_right, mod-eq_of_lt, IsInside, interleaved, digits_for, IsSpread, self_lt_pow, at_own_place, component_fits, digits_enough, digit_of, bit_at-interleaved}
use Rattle.linearize.proofs.SpreadLemmas.{shifted_low, shifted_high}

-- ---- how many digits

digits_within : (m q : ℕ) → ((b : ℕ) → b < q → 2 ^ b < m) → q ≤ m
digits_within m q short = grind (arith, self_lt_pow)

least_digits : (m q : ℕ) → m ≤ 2 ^ q → ((b : ℕ) → b < q → 2 ^ b < m) → position_or_len (λ b. nat_le m (2 ^ b)) (range_with_len 0 m) ≡ q
least_digits m q enough short =
    let within = digits_within m q short in
    let long : length (range_with_len 0 m) ≡ m = length-range_with_len 0 m in
    position_or_len_is (λ b. nat_le m (2 ^ b)) (range_with_len 0 m) q 0 (omega (arith, within, long))
    (λ k l. ap (λ b. nat_le m (2 ^ b)) (at_own_place m k (omega (arith, l, within))) ∙ lt-leb m (2 ^ k) (short k l))
    (λ l. ap (λ b. nat_le m (2 ^ b)) (at_own_place m q (omega (arith, l, long))) ∙ le-leb m (2 ^ q) enough)

-- the digits are as many as give room, and no fewer do
pub digits_for_is : (e : List ℕ) (m q : ℕ) → m ≡ fold max 0 e → m ≤ 2 ^ q → ((b : ℕ) → b < q → 2 ^ b < m) → q ≡ digits_for e
unfolding digits_for
digits_for_is e m q greatest enough short =
    sym (least_digits m q enough short) ∙ ap (λ x. position_or_len (λ b. nat_le x (2 ^ b)) (range_with_len 0 x)) greatest

-- the digits are one more than the logarithm of the greatest extent less one
pub digits_from_log : (e : List ℕ) (m r : ℕ) → m ≡ fold max 0 e → 2 ^ r ≤ m - 1 → m - 1 < 2 * 2 ^ r → r + 1 ≡ digits_for e
digits_from_log e m r greatest low high =
    digits_for_is e m (r + 1) greatest (omega (arith, high, pow_more 2 r)) (λ b h.
    let most : 2 ^ b ≤ 2 ^ r = pow-le-pow_right {n = 2} (lit< tt) (omega arith) in
    omega (arith, low, most, pow_pos r))

-- ---- room

-- a component inside extents with few slots has no more digits than are its own
pub component_narrow : (e i : List ℕ) (d : ℕ) → 0 < length i → 2 ^ (length e * digits_for e) ≤ 2 ^ 24 → IsInside e i → get_or i d 0 < 2 ^ (24 / length i)
component_narrow e i d some few inside =
    let long : length i ≡ length e = length_all_zip (λ (x y : ℕ). x < y) i e inside in
    let all : length e * digits_for e ≤ 24 =
    ⊎_elim (λ (h : 24 < length e * digits_for e). absurd (omega (arith, few, pow_below 24 (length e * digits_for e) h))) (λ (h : length e * digits_for e ≤ 24). h)
    (cases_lt 24 (length e * digits_for e)) in
    let each : digits_for e ≤ 24 / length i = le-div (digits_for e) 24 (length i) some (omega (arith, all, ap (λ x. x * digits_for e) long)) in
    omega (arith, (pow-le-pow_right {n = 2} (lit< tt) each), component_fits e i 0 (digits_for e) d inside (digits_enough e))

-- ---- a slot by its components

-- the digits of the first n components stand where they belong, and all others are 0
abbrev pub IsFront : List ℕ → ℕ → ℕ → Type 0
IsFront index n place = (k : ℕ) → bit_at place k ≡ cond (ltb (length index - 1 - k % length index) n) (digit_of index k) 0

pub front_none : (i : List ℕ) → IsFront i 0 0
front_none i = grind (arith, bit_at-zero, cond-false, le-ltb)

-- a digit of a component that is spread and shifted
own_digit : (rank x z t k : ℕ) → t < rank → IsSpread rank x z → k % rank ≡ t → bit_at (z * 2 ^ t) k ≡ bit_at x (k / rank)
own_digit rank x z t k within spread same =
    let block : k - t ≡ k / rank * rank + 0 = omega (arith, same) in
    let even : (k - t) % rank ≡ 0 = ap (λ n. n % rank) block ∙ mod-mul-add (k / rank) rank 0 (omega arith) in
    shifted_high z t k (omega (arith, same))
    ∙ spread (k - t)
    ∙ cond-true (eqb ((k - t) % rank) 0) (bit_at x ((k - t) / rank)) 0 (eq-eqb ((k - t) % rank) 0 even)
    ∙ ap (bit_at x) (ap (λ n. n / rank) block ∙ div-mul-add (k / rank) rank 0 (omega arith))

-- and where another component has its digit, there is 0
other_digit : (rank x z t k : ℕ) → t < rank → IsSpread rank x z → k % rank ≢ t → bit_at (z * 2 ^ t) k ≡ 0
other_digit rank x z t k within spread apart =
    ⊎_elim (λ (l : k < t). shifted_low z t k l)
    (λ (l : t ≤ k).
    shifted_high z t k l
    ∙ spread (k - t)
    ∙ cond-false (eqb ((k - t) % rank) 0) (bit_at x ((k - t) / rank)) 0 (ne_eqb ((k - t) % rank) 0 (λ even.
    apart (ap (λ n. n % rank) (omega (arith, div-add-mod' (k - t) rank, even, l)) ∙ mod-mul-add ((k - t) / rank) rank t within))))
    (cases_lt k t)

-- one component more
pub front_more : (i : List ℕ) (d place z : ℕ) → d < length i → length i ≤ 4 → z < 2 ^ 24 → IsFront i d place → IsSpread (length i) (get_or i d 0) z
    → IsFront i (d + 1) (bit_or place (z * 2 ^ (length i - 1 - d) % 2 ^ 64))
front_more i d place z within few small front spread = λ k.
    let short : length i - 1 - d ≤ 3 = omega arith in
    let top : 2 ^ (length i - 1 - d) ≤ 2 ^ 3 = pow-le-pow_right {n = 2} (lit< tt) short in
    let whole : z * 2 ^ (length i - 1 - d) < 2 ^ 64 = omega (arith, small, mul-le z (2 ^ (length i - 1 - d)) (2 ^ 24) (2 ^ 3) (omega (arith, small)) top) in
    ap (λ y. bit_at (bit_or place y) k) (mod-eq_of_lt whole)
    ∙ bit_at_or place (z * 2 ^ (length i - 1 - d)) k
    ∙ ⊎_elim (λ (same : k % length i ≡ length i - 1 - d).
    let own : length i - 1 - k % length i ≡ d = omega arith in
    let before : bit_at place k ≡ 0 = front k ∙ cond-false (ltb (length i - 1 - k % length i) d) (digit_of i k) 0 (le-ltb (length i - 1 - k % length i) d (omega arith)) in
    let here : bit_at (z * 2 ^ (length i - 1 - d)) k ≡ digit_of i k =
    own_digit (length i) (get_or i d 0) z (length i - 1 - d) k (omega arith) spread same ∙ ap (λ c. bit_at (get_or i c 0) (k / length i)) (sym own) in
    let sum : max (bit_at place k) (bit_at (z * 2 ^ (length i - 1 - d)) k) ≡ digit_of i k = omega (arith, before, here) in
    sum ∙ sym (cond-true (ltb (length i - 1 - k % length i) (d + 1)) (digit_of i k) 0 (lt-ltb (length i - 1 - k % length i) (d + 1) (omega arith))))
    (λ (apart : k % length i ≢ length i - 1 - d).
    let here : bit_at (z * 2 ^ (length i - 1 - d)) k ≡ 0 = other_digit (length i) (get_or i d 0) z (length i - 1 - d) k (omega arith) spread apart in
    let sum : max (bit_at place k) (bit_at (z * 2 ^ (length i - 1 - d)) k) ≡ bit_at place k = omega (arith, here) in
    sum
    ∙ front k
    ∙ ⊎_elim (λ (l : length i - 1 - k % length i < d).
    cond-true (ltb (length i - 1 - k % length i) d) (digit_of i k) 0 (lt-ltb (length i - 1 - k % length i) d l)
    ∙ sym (cond-true (ltb (length i - 1 - k % length i) (d + 1)) (digit_of i k) 0 (lt-ltb (length i - 1 - k % length i) (d + 1) (omega arith))))
    (λ (l : d ≤ length i - 1 - k % length i).
    cond-false (ltb (length i - 1 - k % length i) d) (digit_of i k) 0 (le-ltb (length i - 1 - k % length i) d l)
    ∙ sym (cond-false (ltb (length i - 1 - k % length i) (d + 1)) (digit_of i k) 0 (le-ltb (length i - 1 - k % length i) (d + 1) (omega (arith, l, apart)))))
    (cases_lt (length i - 1 - k % length i) d))
    (cases_eq (k % length i) (length i - 1 - d))

-- all components give the slot
pub front_all : (i : List ℕ) (n place : ℕ) → 0 < length i → length i ≤ n → IsFront i n place → place ≡ interleaved i
front_all i n place some all front =
    same_from_bits place (interleaved i) (λ k.
    front k
    ∙ cond-true (ltb (length i - 1 - k % length i) n) (digit_of i k) 0 (lt-ltb (length i - 1 - k % length i) n (omega arith))
    ∙ sym (bit_at-interleaved i k))

-- two components give the slot: the first moved up by one place, between the digits of the second
pub two_in_turn : (line column a b : ℕ) → a < 2 ^ 24 → b < 2 ^ 24 → IsSpread 2 line a → IsSpread 2 column b
    → bit_or (a * 2 % 2 ^ 64) b ≡ interleaved (line ∷ column ∷ [])
two_in_turn line column a b low low' one two =
    let i : List ℕ = line ∷ column ∷ [] in
    let first : IsFront i 1 (bit_or 0 (a * 2 % 2 ^ 64)) = front_more i 0 0 a (omega arith) (omega arith) low (front_none i) one in
    let both : IsFront i 2 (bit_or (bit_or 0 (a * 2 % 2 ^ 64)) (b * 1 % 2 ^ 64)) =
    front_more i 1 (bit_or 0 (a * 2 % 2 ^ 64)) b (omega arith) (omega arith) low' first two in
    ap (λ (n : ℕ). bit_or n b) (sym (or_zero_l (a * 2 % 2 ^ 64))) ∙ ap (λ (n : ℕ). bit_or (bit_or 0 (a * 2 % 2 ^ 64)) n) (omega arith)
    ∙ front_all i 2 (bit_or (bit_or 0 (a * 2 % 2 ^ 64)) (b * 1 % 2 ^ 64)) (omega arith) (omega arith) both
