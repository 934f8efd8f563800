-- The rows of boxes.
use Rattle.c_lines.proofs.Imports.{◌≡◌, ⊎_elim, ℕ, zero, suc, ◌+◌, ◌^◌, ◌<◌, ◌≤◌, Bool, true, false, nat_lt, List, [], ◌∷◌, length, map, take, get_or, All, Err, refl, sym, ap, ◌∙◌, arith, cases_Bool, false≢true, take_more, take_more_set, ◌++◌, list_all, take_all, indices, and_parts, leb-true, lt-ltb, ◌&&◌, filter, set, if◌then◌else◌, max, min, nat_le, enumerate_from, are_inside, windowed, IsWindow, holds, rows_in, Span, BadWindow, spans_of}

is_window : (extents : List ℕ) (spans : List Span) → are_inside extents spans ≡ true → IsWindow extents spans
is_window [] [] inside = tt
is_window (extent ∷ extents) (span ∷ spans) inside =
    let both = and_parts (nat_le span.from span.end && nat_le span.end extent) (are_inside extents spans) inside in
    let two = and_parts (nat_le span.from span.end) (nat_le span.end extent) both.0 in
    ((leb-true span.from span.end two.0, leb-true span.end extent two.1), is_window extents spans both.1)
is_window extents spans inside = absurd (false≢true inside)

-- spans that are no window are refused
pub no_window : (extents : List ℕ) (spans : List Span) → (IsWindow extents spans → ⊥) → windowed extents spans ≡ Err BadWindow
no_window extents spans none =
    ⊎_elim (λ (yes : are_inside extents spans ≡ true). absurd (none (is_window extents spans yes))) (λ (no : are_inside extents spans ≡ false). rw no refl)
    (cases_Bool (are_inside extents spans))

-- the bounds of a window are as narrow as extents
pub narrow_bounds : (extents low high : List ℕ) (k : ℕ) → All (λ n. n < 2 ^ 32) extents → IsWindow extents (spans_of low high) → k < length low → k < length high
    → max (get_or low k 0) (get_or high k 0) < 2 ^ 32
narrow_bounds [] (l ∷ low) (h ∷ high) k narrow is in_low in_high = absurd is
narrow_bounds (extent ∷ extents) (l ∷ low) (h ∷ high) zero narrow is in_low in_high = let first : extent < 2 ^ 32 = narrow 0 0 (omega arith) in omega (arith, is.0.0, is.0.1, first)
narrow_bounds (extent ∷ extents) (l ∷ low) (h ∷ high) (suc k) narrow is in_low in_high =
    narrow_bounds extents low high k (λ j d low. narrow (suc j) d (omega (arith, low))) is.1 (omega arith) (omega arith)
narrow_bounds extents low high k narrow is in_low in_high = absurd (omega arith)

pub length-spans : (low high : List ℕ) → length (spans_of low high) ≡ min (length low) (length high)
length-spans (l ∷ low) (h ∷ high) = omega (arith, length-spans low high)
length-spans low high = omega arith

span_at : (low high : List ℕ) (k : ℕ) (other : Span) → k < length low → k < length high → get_or (spans_of low high) k other ≡ record { from = get_or low k 0; end = get_or high k 0 }
span_at (l ∷ low) (h ∷ high) zero other in_low in_high = refl
span_at (l ∷ low) (h ∷ high) (suc k) other in_low in_high = span_at low high k other (omega arith) (omega arith)
span_at low high k other in_low in_high = absurd (omega arith)

-- one span more of those that are made of bounds
pub one_span : (low high : List ℕ) (made : List Span) (k : ℕ) (span : Span) → span ≡ record { from = get_or low k 0; end = get_or high k 0 } → k < length made → k < length low → k < length high
    → take k made ≡ take k (spans_of low high) → take (k + 1) (set made k span) ≡ take (k + 1) (spans_of low high)
one_span low high made k span is room in_low in_high so =
    take_more_set made k span room ∙ ap (λ (xs : List Span). xs ++ span ∷ []) so ∙ ap (λ (s : Span). take k (spans_of low high) ++ s ∷ []) (is ∙ sym (span_at low high k span in_low in_high))
    ∙ sym (take_more (spans_of low high) k span (omega (arith, length-spans low high)))

-- and all of them
pub all_spans : (low high : List ℕ) (made : List Span) (done rank : ℕ) → rank ≡ min (length low) (length high) → done ≤ rank → rank ≤ done → take done made ≡ take done (spans_of low high)
    → take rank made ≡ spans_of low high
all_spans low high made done rank is few over so =
    let whole : rank ≡ done = omega arith in
    ap (λ (n : ℕ). take n made) whole ∙ so ∙ take_all done (spans_of low high) (omega (arith, length-spans low high))

-- each row of a window is one of the array
rows_below : (test : List ℕ → Bool) (n most : ℕ) (xs : List (List ℕ)) → n + length xs ≤ most
    → list_all (λ row. nat_lt row most) (map (λ e. e.0) (filter (λ e. test e.1) (enumerate_from n xs))) ≡ true
rows_below test n most [] few = refl
rows_below test n most (x ∷ xs) few = by_test (test x) (rows_below test (n + 1) most xs (omega arith)) where
  by_test : (t : Bool) → list_all (λ row. nat_lt row most) (map (λ e. e.0) (filter (λ e. test e.1) (enumerate_from (n + 1) xs))) ≡ true
      → list_all (λ row. nat_lt row most) (map (λ e. e.0) (if t then (n, x) ∷ filter (λ e. test e.1) (enumerate_from (n + 1) xs) else filter (λ e. test e.1) (enumerate_from (n + 1) xs))) ≡ true
  by_test true rest = rw (lt-ltb n most (omega arith)) rest
  by_test false rest = rest

pub window_below : (extents : List ℕ) (spans : List Span) (most : ℕ) → most ≡ length (indices extents) → list_all (λ row. nat_lt row most) (rows_in extents spans) ≡ true
window_below extents spans most is = rows_below (holds spans) 0 most (indices extents) (omega arith)
