-- The laws of slots in Morton order: which binary digits they have, and from where on they have none.
use Rattle.std.proofs.Common.{◌≡◌, ℕ, zero, suc, ◌+◌, ◌-◌, ◌*◌, ◌/◌, ◌%◌, ◌^◌, ◌<◌, ◌≤◌, max, List, [], ◌∷◌, ◌++◌, length, get_or, sym, ap, subst, ◌∙◌, ⊎_elim, arith, pow-suc}
use Rattle.std.specs.Prelude.{fold, nat_le, sum_by}
use Rattle.std.specs.Int.{bit_at}
use Rattle.std.specs.List.{position_or_len, range_with_len}
use Rattle.std.proofs.lemmas.Bool.{cases_lt, leb-true}
use Rattle.std.proofs.lemmas.List.Elements.{length_all_zip}
use Rattle.std.proofs.lemmas.List.FromFn.{length-range_with_len, get_or-range_with_len}
use Rattle.std.proofs.lemmas.List.Sums.{sum_by_push, passes_at_first}
use Rattle.std.proofs.lemmas.Grind.{same_number_lists}
use Rattle.std.proofs.lemmas.Nat.{pow_pos, shr_split, mul-le, div-mul-add, mod-mul-add, le-div, mod_below}
use Rattle.std.proofs.lemmas.Nat.Bits.{bit_at-zero, bit_at-lt, bit_at_lowest, bit_at_above, bit_at_cat_low, bit_at_cat_high, same_from_bits}
use Rattle.extents.specs.Indices.{IsInside}
use Rattle.linearize.specs.Slots.{interleaved, digits_for}

-- ---- a number by its binary digits

-- the number with these n binary digits
abbrev number_by_digits : (ℕ → ℕ) → ℕ → ℕ
number_by_digits digit n = sum_by (λ k. 2 ^ k * digit k) (range_with_len 0 n)

range_more : (a n k : ℕ) → a + n ≡ k → range_with_len a (suc n) ≡ range_with_len a n ++ k ∷ []
range_more a zero k e = ap (λ x. x ∷ []) (omega arith)
range_more a (suc n) k e = ap (λ xs. a ∷ xs) (range_more (a + 1) n k (omega arith))

number_more : (digit : ℕ → ℕ) (n : ℕ) → number_by_digits digit (suc n) ≡ digit n * 2 ^ n + number_by_digits digit n
number_more digit n =
    omega (arith, (ap (sum_by (λ k. 2 ^ k * digit k)) (range_more 0 n n (omega arith)) ∙ sum_by_push (λ k. 2 ^ k * digit k) (range_with_len 0 n) n))

number_lt : (digit : ℕ → ℕ) (n : ℕ) → ((k : ℕ) → digit k < 2) → number_by_digits digit n < 2 ^ n
number_lt digit zero binary = omega arith
number_lt digit (suc n) binary =
    let one : digit n ≤ 1 = omega (arith, binary n) in
    omega (arith, number_more digit n, number_lt digit n binary, mul-le (digit n) (2 ^ n) 1 (2 ^ n) one (omega arith), pow-suc 2 n)

bit_at-number : (digit : ℕ → ℕ) (n k : ℕ) → ((k : ℕ) → digit k < 2) → k < n → bit_at (number_by_digits digit n) k ≡ digit k
bit_at-number digit zero k binary h = absurd (omega arith)
bit_at-number digit (suc n) k binary h =
    ap (λ m. bit_at m k) (number_more digit n)
    ∙ ⊎_elim (λ (l : k < n). bit_at_cat_low (digit n) n (number_by_digits digit n) k l ∙ bit_at-number digit n k binary l)
    (λ (l : n ≤ k).
    let same : n ≡ k = omega arith in
    let none : k - n ≡ 0 = omega arith in
    let small : digit n % 2 ≡ digit n = omega (arith, binary n) in
    bit_at_cat_high (digit n) n (number_by_digits digit n) k (number_lt digit n binary) l ∙ ap (bit_at (digit n)) none ∙ bit_at_lowest (digit n) ∙ small ∙ ap digit same)
    (cases_lt k n)

-- a number has no binary digit from its own value on
pub self_lt_pow : (n : ℕ) → n < 2 ^ n
self_lt_pow zero = omega arith
self_lt_pow (suc n) = omega (arith, self_lt_pow n, pow-suc 2 n)

-- a number with no binary digit from w on is below 2 ^ w
pub below_from_digits : (n w : ℕ) → ((k : ℕ) → w ≤ k → bit_at n k ≡ 0) → n < 2 ^ w
below_from_digits n w none =
    let low : n % 2 ^ w < 2 ^ w = mod_below n (2 ^ w) (pow_pos w) in
    let same : n ≡ n % 2 ^ w = same_from_bits n (n % 2 ^ w) (λ k.
    ⊎_elim (λ (l : k < w). ap (λ m. bit_at m k) (sym (shr_split n w)) ∙ bit_at_cat_low (n / 2 ^ w) w (n % 2 ^ w) k l)
    (λ (l : w ≤ k). none k l ∙ sym (bit_at_above (n % 2 ^ w) w k low l))
    (cases_lt k w)) in
    omega (arith, same, low)

-- ---- room for the components

le_fold_max : (a : ℕ) (xs : List ℕ) → a ≤ fold max a xs
le_fold_max a [] = omega arith
le_fold_max a (x ∷ xs) = omega (arith, le_fold_max (max a x) xs)

get_or-le-fold_max : (xs : List ℕ) (a k : ℕ) → get_or xs k 0 ≤ fold max a xs
get_or-le-fold_max [] a k = omega arith
get_or-le-fold_max (x ∷ xs) a zero = omega (arith, le_fold_max (max a x) xs)
get_or-le-fold_max (x ∷ xs) a (suc k) = get_or-le-fold_max xs (max a x) k

-- a component inside extents of up to 2 ^ q has q binary digits
pub component_fits : (e i : List ℕ) (a q d : ℕ) → IsInside e i → fold max a e ≤ 2 ^ q → get_or i d 0 < 2 ^ q
component_fits [] [] a q d inside room = pow_pos q
component_fits [] (k ∷ i) a q d inside room = absurd inside
component_fits (n ∷ e) [] a q d inside room = absurd inside
component_fits (n ∷ e) (k ∷ i) a q zero inside room = omega (arith, inside.0, le_fold_max (max a n) e, room)
component_fits (n ∷ e) (k ∷ i) a q (suc d) inside room = component_fits e i (max a n) q d inside.1 room

pub at_own_place : (m k : ℕ) → k < m → get_or (range_with_len 0 m) k 0 ≡ k
at_own_place m k h = omega (arith, get_or-range_with_len 0 m k 0 h)

first_enough : (m : ℕ) → m ≤ 2 ^ position_or_len (λ b. nat_le m (2 ^ b)) (range_with_len 0 m)
first_enough m =
    let long : length (range_with_len 0 m) ≡ m = length-range_with_len 0 m in
    ⊎_elim (λ (l : position_or_len (λ b. nat_le m (2 ^ b)) (range_with_len 0 m) < length (range_with_len 0 m)).
    let at : get_or (range_with_len 0 m) (position_or_len (λ b. nat_le m (2 ^ b)) (range_with_len 0 m)) 0 ≡ position_or_len (λ b. nat_le m (2 ^ b)) (range_with_len 0 m) =
    at_own_place m (position_or_len (λ b. nat_le m (2 ^ b)) (range_with_len 0 m)) (omega (arith, l, long)) in
    subst (λ (b : ℕ). m ≤ 2 ^ b) at (leb-true m _ (passes_at_first (λ b. nat_le m (2 ^ b)) (range_with_len 0 m) 0 l)))
    (λ (l : length (range_with_len 0 m) ≤ position_or_len (λ b. nat_le m (2 ^ b)) (range_with_len 0 m)).
    omega (arith, l, long, self_lt_pow (position_or_len (λ b. nat_le m (2 ^ b)) (range_with_len 0 m))))
    (cases_lt (position_or_len (λ b. nat_le m (2 ^ b)) (range_with_len 0 m)) (length (range_with_len 0 m)))

-- no extent is above the power of two that the digits give
pub digits_enough : (e : List ℕ) → fold max 0 e ≤ 2 ^ digits_for e
unfolding digits_for
digits_enough e = first_enough (fold max 0 e)

-- ---- slots in Morton order

-- digit k of the slot of an index
abbrev pub digit_of : List ℕ → ℕ → ℕ
digit_of index k = bit_at (get_or index (length index - 1 - k % length index) 0) (k / length index)

digit_none : (i : List ℕ) (q k : ℕ) → ((d : ℕ) → get_or i d 0 < 2 ^ q) → length i * q ≤ k → digit_of i k ≡ 0
digit_none [] q k fits from = bit_at-zero (k / 0)
digit_none (x ∷ i) q k fits from =
    let above : q ≤ k / length (x ∷ i) = le-div q k (length (x ∷ i)) (omega arith) (omega (arith, from)) in
    bit_at_above (get_or (x ∷ i) (length (x ∷ i) - 1 - k % length (x ∷ i)) 0) q (k / length (x ∷ i)) (fits (length (x ∷ i) - 1 - k % length (x ∷ i))) above

pub bit_at-interleaved : (i : List ℕ) (k : ℕ) → bit_at (interleaved i) k ≡ digit_of i k
unfolding interleaved
bit_at-interleaved i k =
    let binary : (k : ℕ) → digit_of i k < 2 = λ k. bit_at-lt (get_or i (length i - 1 - k % length i) 0) (k / length i) in
    ⊎_elim (λ (l : k < length i * fold max 0 i). bit_at-number (digit_of i) (length i * fold max 0 i) k binary l)
    (λ (l : length i * fold max 0 i ≤ k).
    bit_at_above (number_by_digits (digit_of i) (length i * fold max 0 i)) (length i * fold max 0 i) k (number_lt (digit_of i) (length i * fold max 0 i) binary) l
    ∙ sym (digit_none i (fold max 0 i) k (λ d. omega (arith, get_or-le-fold_max i 0 d, self_lt_pow (fold max 0 i))) l))
    (cases_lt k (length i * fold max 0 i))

-- digit b * rank + (rank - 1 - d) of the slot is digit b of component d
pub bit_at-component : (i : List ℕ) (d b : ℕ) → d < length i → bit_at (interleaved i) (b * length i + (length i - 1 - d)) ≡ bit_at (get_or i d 0) b
bit_at-component i d b within = grind (arith, mod-mul-add, bit_at-interleaved, bit_at, div-mul-add)

-- the slot of an index inside is below their number
pub interleaved_below : (e i : List ℕ) → IsInside e i → interleaved i < 2 ^ (length e * digits_for e)
interleaved_below e i inside =
    let fits : (d : ℕ) → get_or i d 0 < 2 ^ digits_for e = λ d. component_fits e i 0 (digits_for e) d inside (digits_enough e) in
    subst (λ (rank : ℕ). interleaved i < 2 ^ (rank * digits_for e)) (length_all_zip (λ (x y : ℕ). x < y) i e inside)
    (below_from_digits (interleaved i) (length i * digits_for e) (λ k from. bit_at-interleaved i k ∙ digit_none i (digits_for e) k fits from))

-- indices inside with one slot are one
pub same_from_interleaved : (e i j : List ℕ) → IsInside e i → IsInside e j → interleaved i ≡ interleaved j → i ≡ j
same_from_interleaved e i j hi hj same =
    let long : length i ≡ length j = length_all_zip (λ (x y : ℕ). x < y) i e hi ∙ sym (length_all_zip (λ (x y : ℕ). x < y) j e hj) in
    same_number_lists i j long (λ d within.
    same_from_bits (get_or i d 0) (get_or j d 0) (λ b.
    sym (bit_at-component i d b within)
    ∙ ap (λ n. bit_at n (b * length i + (length i - 1 - d))) same
    ∙ ap (λ rank. bit_at (interleaved j) (b * rank + (rank - 1 - d))) long
    ∙ bit_at-component j d b (omega (arith, within, long))))
