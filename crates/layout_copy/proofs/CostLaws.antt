-- Rounds of slots one after another.
use Rattle.layout_copy.proofs.Imports.{◌≡◌, ⊎_elim, ℕ, ◌+◌, ◌*◌, ◌/◌, ◌%◌, ◌<◌, ◌≤◌, Bool, true, false, ◌||◌, List, [], ◌∷◌, map, take, length, get_or, sum_by, sym, ap, ◌∙◌, arith, min, if◌then◌else◌, range_with_len, mul-mod_left, div-add-mod', mul-le, cases_lt, eqb-true, or_right, length-map, get_or-map, sum_by-cons, sum_by_more, sum_by-le-sum_by, LeafType, Truth, blocks, all_pieces, size_of, is_cut, piece_count, piece_at, slot_steps, span_join, sum_both, kind_at, piece_steps, piece_steps_at, steps_before}

-- slots are cut at the multiples of the lesser of two numbers
pub cut_at : (one two slot : ℕ) → slot % min one two ≡ 0 → is_cut one two slot ≡ true
cut_at one two slot none = grind (arith, ⊎_elim, or_right, cases_lt)

-- multiples behind a multiple
pub multiple_on : (slot k n : ℕ) → slot % n ≡ 0 → (slot + k * n) % n ≡ 0
multiple_on slot k n none =
    let whole : slot / n * n ≡ slot = omega (arith, div-add-mod' slot n, none) in
    ap (λ (m : ℕ). (m + k * n) % n) (sym whole) ∙ ap (λ (m : ℕ). m % n) (sym (grind arith)) ∙ mul-mod_left (slot / n + k) n

-- what is counted by one test is counted by another that it meets
by_test : (one two : Bool) (less more : ℕ) → (one ≡ true → two ≡ true) → less ≤ more → (if one || two then less else 0) ≤ (if two then more else 0)
by_test one two less more meets le = grind arith

-- the pieces of a round are no more, and no longer, than those of all slots
module _ (slots one two slot count : ℕ) (cut : is_cut one two slot ≡ true) (inside : slot + count ≤ slots) where
  at_most : (size at : ℕ) → piece_at one two size slot (slot + count) at ≤ piece_steps_at slots one two (size ∷ []) at
  at_most size at = grind (arith, mul-le, sum_by-cons, by_test, eqb-true)

  leaf_round : (size : ℕ) → slot_steps one two size slot count ≤ sum_by (piece_steps_at slots one two (size ∷ [])) (range_with_len slot count)
  leaf_round size = grind (arith, all_pieces, sum_by-le-sum_by, range_with_len, at_most)

  one_more : (size : ℕ) (sizes : List ℕ) (at : ℕ) → piece_steps_at slots one two (size ∷ []) at + piece_steps_at slots one two sizes at ≤ piece_steps_at slots one two (size ∷ sizes) at
  one_more size sizes at = of (is_cut one two at) where
    of : (b : Bool) → (if b then piece_steps (size ∷ []) (piece_count slots one two at) else 0) + (if b then piece_steps sizes (piece_count slots one two at) else 0)
        ≤ (if b then piece_steps (size ∷ sizes) (piece_count slots one two at) else 0)
    of true =
        let f : ℕ → ℕ = λ s. blocks (piece_count slots one two at * s) in
        omega (arith, sum_by-cons f size sizes, sum_by-cons f size [])
    of false = omega arith

  leaves_round : (sizes : List ℕ) → sum_by (λ size. slot_steps one two size slot count) sizes ≤ sum_by (piece_steps_at slots one two sizes) (range_with_len slot count)
  leaves_round [] = omega (arith)
  leaves_round (size ∷ sizes) =
      let f : ℕ → ℕ = piece_steps_at slots one two (size ∷ []) in
      let g : ℕ → ℕ = piece_steps_at slots one two sizes in
      let whole = sum_by-cons (λ (s : ℕ). slot_steps one two s slot count) size sizes in
      let less = sum_by-le-sum_by (λ (at : ℕ). f at + g at) (piece_steps_at slots one two (size ∷ sizes)) (range_with_len slot count) (one_more size sizes) in
      omega (arith, whole, (sum_both f g (range_with_len slot count)), less, leaf_round size, leaves_round sizes)

  pub round_counted : (sizes : List ℕ) → steps_before slots one two sizes slot + sum_by (λ size. slot_steps one two size slot count) sizes ≤ steps_before slots one two sizes (slot + count)
  unfolding steps_before
  round_counted sizes = omega (arith, leaves_round sizes, span_join (piece_steps_at slots one two sizes) slot count)

-- one leaf more of a sum over leaves, and all leaves
pub leaf_sum : (g : ℕ → ℕ) (kinds : List LeafType) (leaf : ℕ) → leaf < length kinds
    → sum_by g (take leaf (map size_of kinds)) + g (size_of (kind_at kinds leaf)) ≡ sum_by g (take (leaf + 1) (map size_of kinds))
leaf_sum g kinds leaf inside =
    let size : get_or (map size_of kinds) leaf 0 ≡ size_of (kind_at kinds leaf) = get_or-map size_of kinds leaf Truth 0 inside in
    grind (arith, sum_by, sum_by_more, length-map)
