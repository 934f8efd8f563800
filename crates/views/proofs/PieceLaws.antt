-- Slots that are cut into pieces.
use Rattle.views.proofs.Imports.{◌≡◌, ◌⊎◌, ⊎_elim, ℕ, ◌+◌, ◌-◌, ◌*◌, ◌/◌, ◌%◌, ◌<◌, ◌≤◌, true, ◌||◌, div-mul-le_self, refl, sym, ap, ◌∙◌, arith, ◌==◌, mul-mod_left, div-add-mod', mod-mul-add, mod_below, row_fits, le-div, cases_lt, or_right, blocks, is_cut, piece_count, piece_at, ArePieces, min}

-- a rest that stays below its divisor
mod_more : (slot more n : ℕ) → slot % n + more < n → (slot + more) % n ≡ slot % n + more
mod_more slot more n low =
    let place : slot / n * n + (slot % n + more) ≡ slot + more = omega (arith, div-add-mod' slot n) in
    ap (λ (m : ℕ). m % n) (sym place) ∙ mod-mul-add (slot / n) n (slot % n + more) low

-- multiples behind a multiple
multiple : (slot k n : ℕ) → slot % n ≡ 0 → (slot + k * n) % n ≡ 0
multiple slot k n none =
    let whole : slot / n * n ≡ slot = omega (arith, div-add-mod' slot n, none) in
    let sum : (slot / n + k) * n ≡ slot / n * n + k * n = grind arith in
    ap (λ (m : ℕ). (m + k * n) % n) (sym whole) ∙ ap (λ (m : ℕ). m % n) (sym sum) ∙ mul-mod_left (slot / n + k) n

-- the next multiple of a number
next_multiple : (n slot count : ℕ) → 0 < n → count ≡ n - slot % n → (slot + count) % n ≡ 0
next_multiple n slot count some is = grind (arith, div-add-mod', mul-mod_left)

cut_first : (one two slot : ℕ) → slot % one ≡ 0 → is_cut one two slot ≡ true
cut_first one two slot none = rw none refl

cut_second : (one two slot : ℕ) → slot % two ≡ 0 → is_cut one two slot ≡ true
cut_second one two slot none = rw none (or_right (slot % one == 0) true refl)

module _ (one two end slot count : ℕ) (some_one : 0 < one) (some_two : 0 < two) (inside : slot < end) (is : count ≡ piece_count end one two slot) where
  -- behind a piece begins another one, where there is a slot
  next_cut : slot + count < end → is_cut one two (slot + count) ≡ true
  next_cut more =
      let step : (count ≡ one - slot % one) ⊎ (count ≡ two - slot % two) = grind (arith, cases_lt) in
      ⊎_elim (λ (here : count ≡ one - slot % one). cut_first one two (slot + count) (next_multiple one slot count some_one here))
      (λ (here : count ≡ two - slot % two). cut_second one two (slot + count) (next_multiple two slot count some_two here)) step

  -- one piece
  pub one_piece : ArePieces one two end slot count 1
  one_piece = grind (arith, mod_below, next_cut)

  -- whole blocks of the second side, in one block of the first
  pub second_whole : count ≡ two → ArePieces one two end slot count (min (end - slot) (one - slot % one) / count)
  second_whole full =
      let low : slot % one < one = mod_below slot one some_one in
      let low_two : slot % two < two = mod_below slot two some_two in
      let none : slot % two ≡ 0 = omega (arith, is, full, low_two) in
      let reach : ℕ = min (end - slot) (one - slot % one) in
      let fits : count ≤ reach = omega (arith, is) in
      let some : 0 < count = omega (arith, full, some_two) in
      let all : reach / count * count ≤ reach = div-mul-le_self reach count in
      let once : 1 * count ≤ reach = omega (arith, fits) in
      let last : (k : ℕ) → k < reach / count → k * count + count ≤ reach = λ k l. omega (arith, row_fits k count (reach / count) count l (omega arith), all) in
      let here : (k : ℕ) → (slot + k * count) % two ≡ 0 = λ k. ap (λ (n : ℕ). (slot + k * n) % two) full ∙ multiple slot k two none in
      let wide : (k : ℕ) → k < reach / count → (slot + k * count) % one ≡ slot % one + k * count = λ k l. mod_more slot (k * count) one (omega (arith, last k l, some, low)) in
      grind (arith, le-div, cut_second)

  -- and the other way round
  pub first_whole : count ≡ one → ArePieces one two end slot count (min (end - slot) (two - slot % two) / count)
  first_whole full =
      let low : slot % two < two = mod_below slot two some_two in
      let low_one : slot % one < one = mod_below slot one some_one in
      let none : slot % one ≡ 0 = omega (arith, is, full, low_one) in
      let reach : ℕ = min (end - slot) (two - slot % two) in
      let fits : count ≤ reach = omega (arith, is) in
      let some : 0 < count = omega (arith, full, some_one) in
      let all : reach / count * count ≤ reach = div-mul-le_self reach count in
      let once : 1 * count ≤ reach = omega (arith, fits) in
      let last : (k : ℕ) → k < reach / count → k * count + count ≤ reach = λ k l. omega (arith, row_fits k count (reach / count) count l (omega arith), all) in
      let here : (k : ℕ) → (slot + k * count) % one ≡ 0 = λ k. ap (λ (n : ℕ). (slot + k * n) % one) full ∙ multiple slot k one none in
      let wide : (k : ℕ) → k < reach / count → (slot + k * count) % two ≡ slot % two + k * count = λ k l. mod_more slot (k * count) two (omega (arith, last k l, some, low)) in
      grind (arith, le-div, cut_first)

-- the blocks of a piece
pub piece_is : (one two size first end slot count : ℕ) → ((slot == first) || is_cut one two slot) ≡ true → piece_count end one two slot ≡ count
    → piece_at one two size first end slot ≡ blocks (count * size)
piece_is one two size first end slot count begins is = rw (begins, is) refl
