-- The granules that hold a bit of a cell are those that its rule touches in the slots of all rows.
use Rattle.advisor.proofs.Imports.{◌≡◌, ℕ, zero, suc, ◌+◌, ◌<◌, ◌≤◌, Bool, true, false, List, All, Option, Some, None, length, get_or, refl, sym, ap, ◌∙◌, subst, arith, ◌&&◌, ◌||◌, is_some, list_any, range_with_len, true≢false, eq-eqb, eqb-true, and_parts, and_from, length-map, get_or-map, get_or-range_with_len, length-range_with_len, Any-from_list_any, list_any_at, indices, Order, row_at, slot_at, slot_count, row_at-slot_at, slot_at-row_at, slot_at_below, Owner, IsLaidOut, IsLocated, IsPiece, is_in_granule, is_hot, pieces_hot, piece_in, pieces_in, PieceRule, IsRuleOf, Rule, HeatCounts, IsInside, HasGranules, piece_inside, has_row, holds_cell, IsTouchedBy, same_tests, any_map, touched_hot, are_rows_touched, are_slots_touched, ◌==◌}
use Rattle.advisor.proofs.WarmLaws.{any_swap}

-- one of the first numbers passes a test
low_any : (test : ℕ → Bool) (count n : ℕ) → n < count → test n ≡ true → list_any test (range_with_len 0 count) ≡ true
low_any test count n low passes =
    let at : get_or (range_with_len 0 count) n 0 ≡ n = get_or-range_with_len 0 count n 0 low ∙ (let e : 0 + n ≡ n = omega arith in e) in
    list_any_at test (range_with_len 0 count) n 0 (omega (arith, low, length-range_with_len 0 count)) (ap test at ∙ passes)

any_low : (test : ℕ → Bool) (count : ℕ) → list_any test (range_with_len 0 count) ≡ true → (n : ℕ) × (n < count) × (test n ≡ true)
any_low test count e = grind (arith, Any-from_list_any, range_with_len, length-range_with_len, get_or-range_with_len)

-- ---- slots that rows have, and others

-- numbers that all pass another test, or none
any_both : (guard test : ℕ → Bool) (start count : ℕ) → ((k : ℕ) → k < count → guard (start + k) ≡ true)
    → list_any (λ n. guard n && test n) (range_with_len start count) ≡ list_any test (range_with_len start count)
any_both guard test start zero each = refl
any_both guard test start (suc count) each =
    let first : start + 0 ≡ start = omega arith in
    let here : guard start ≡ true = ap guard (sym first) ∙ each 0 (omega arith) in
    ap (λ (b : Bool). (b && test start) || list_any (λ n. guard n && test n) (range_with_len (start + 1) count)) here
    ∙ ap (λ (b : Bool). test start || b) (any_both guard test (start + 1) count (λ k l.
    (let next : start + suc k ≡ start + 1 + k = omega arith in ap guard (sym next) ∙ each (suc k) (omega (arith, l)))))

any_neither : (guard test : ℕ → Bool) (start count : ℕ) → ((k : ℕ) → k < count → guard (start + k) ≡ false) → list_any (λ n. guard n && test n) (range_with_len start count) ≡ false
any_neither guard test start zero each = refl
any_neither guard test start (suc count) each =
    let first : start + 0 ≡ start = omega arith in
    let here : guard start ≡ false = ap guard (sym first) ∙ each 0 (omega arith) in
    ap (λ (b : Bool). (b && test start) || list_any (λ n. guard n && test n) (range_with_len (start + 1) count)) here
    ∙ any_neither guard test (start + 1) count (λ k l.
    (let next : start + suc k ≡ start + 1 + k = omega arith in ap guard (sym next) ∙ each (suc k) (omega (arith, l))))

module _ (granule : ℕ) (order : Order) (extents : List ℕ) (rules : List PieceRule) (start count blob at : ℕ) where
  in_slot : ℕ → PieceRule → Bool
  in_slot slot rule = is_in_granule granule blob at (piece_in rule slot)

  pub run_of_rows : ((k : ℕ) → k < count → has_row order extents (start + k) ≡ true) → are_rows_touched granule order extents rules start count blob at ≡ are_slots_touched granule rules start count blob at
  unfolding in_slot
  run_of_rows each =
      any_both (has_row order extents) (λ slot. list_any (in_slot slot) rules) start count each
      ∙ same_tests (list_any (λ slot. list_any (in_slot slot) rules) (range_with_len start count)) (list_any (λ rule. list_any (λ slot. in_slot slot rule) (range_with_len start count)) rules)
      (any_swap in_slot (range_with_len start count) rules) (any_swap (λ rule slot. in_slot slot rule) rules (range_with_len start count))

  pub run_of_none : ((k : ℕ) → k < count → has_row order extents (start + k) ≡ false) → are_rows_touched granule order extents rules start count blob at ≡ false
  unfolding in_slot
  run_of_none each = any_neither (has_row order extents) (λ slot. list_any (in_slot slot) rules) start count each

-- ---- the rule of a cell

-- the row of a slot that has one
row_of : (order : Order) (extents : List ℕ) (slot : ℕ) → has_row order extents slot ≡ true → (row : ℕ) × (row < length (indices extents)) × (slot_at order extents row ≡ slot)
row_of order extents slot has = of (row_at order extents slot) has (λ row at. slot_at-row_at order extents slot row at) where
  of : (found : Option ℕ) → is_some found ≡ true → ((row : ℕ) → found ≡ Some row → (row < length (indices extents)) × (slot_at order extents row ≡ slot))
      → (row : ℕ) × (row < length (indices extents)) × (slot_at order extents row ≡ slot)
  of None is each = absurd (true≢false (sym is))
  of (Some row) is each = let row_is = each row refl in (row, row_is.0, row_is.1)

module _ (layout : List (List Owner)) (extents widths : List ℕ) (laid : IsLaidOut layout (length (indices extents)) widths) (granule cell : ℕ)
    (rule : Rule) (places : IsRuleOf layout extents cell (get_or widths cell 0) rule) where
  by : (blob at : ℕ) → IsTouchedBy layout (length (indices extents)) (length widths) (λ other. cell == other) granule blob at
  by blob at = touched_hot layout (length (indices extents)) widths laid (λ other. cell == other) granule blob at

  located : (row slot : ℕ) → row < length (indices extents) → slot_at rule.order extents row ≡ slot → IsLocated layout row cell (get_or widths cell 0) (pieces_in rule.pieces.items slot)
  located row slot low at = subst (λ (s : ℕ). IsLocated layout row cell (get_or widths cell 0) (pieces_in rule.pieces.items s)) at (places.places row low)

  -- it touches the granules of the cell in its row
  slot_hot : (row slot : ℕ) → row < length (indices extents) → slot_at rule.order extents row ≡ slot → (blob at : ℕ)
      → list_any (λ piece. is_in_granule granule blob at (piece_in piece slot)) rule.pieces.items ≡ is_hot layout granule row cell blob at
  slot_hot row slot low at blob place =
      sym (any_map (is_in_granule granule blob place) (λ (piece : PieceRule). piece_in piece slot) rule.pieces.items) ∙ pieces_hot laid (located row slot low at) granule blob place

  pub rows_hold : (blob at : ℕ) → are_rows_touched granule rule.order extents rule.pieces.items 0 (slot_count rule.order extents) blob at ≡ holds_cell layout granule cell blob at
  rows_hold blob at =
      let slots = slot_count rule.order extents in
      let in_slot : ℕ → Bool = λ slot. list_any (λ piece. is_in_granule granule blob at (piece_in piece slot)) rule.pieces.items in
      let test : ℕ → Bool = λ slot. has_row rule.order extents slot && in_slot slot in
      same_tests _ _
      (λ (e : list_any test (range_with_len 0 slots) ≡ true).
      (let slot = any_low test slots e in
      let both = and_parts (has_row rule.order extents slot.0) (in_slot slot.0) slot.2 in
      let row = row_of rule.order extents slot.0 both.0 in
      (by blob at).only row.0 cell (record { passes = eq-eqb cell cell refl; hot = sym (slot_hot row.0 slot.0 row.1 row.2 blob at) ∙ both.1 })))
      (λ (e : holds_cell layout granule cell blob at ≡ true).
      (let a = (by blob at).some e in
      let same : cell ≡ a.1 = eqb-true cell a.1 a.4.passes in
      let hot : is_hot layout granule a.0 cell blob at ≡ true = ap (λ (c : ℕ). is_hot layout granule a.0 c blob at) same ∙ a.4.hot in
      let slot : ℕ = slot_at rule.order extents a.0 in
      low_any test slots slot (slot_at_below rule.order extents a.0 a.2)
      (and_from (has_row rule.order extents slot) (in_slot slot) (ap (λ (o : Option ℕ). is_some o) (row_at-slot_at rule.order extents a.0 a.2)) (slot_hot a.0 slot a.2 refl blob at ∙ hot))))

  -- all these pieces lie in granules that are counted
  pub rows_inside : (heat : HeatCounts) → 1 ≤ heat.granule → HasGranules layout heat → (slot : ℕ) → has_row rule.order extents slot ≡ true → All (λ piece. IsInside heat (piece_in piece slot)) rule.pieces.items
  rows_inside heat some granules slot has k d small =
      let row = row_of rule.order extents slot has in
      let pieces = rule.pieces.items in
      let many : k < length (pieces_in pieces slot) = omega (arith, small, length-map pieces (λ (piece : PieceRule). piece_in piece slot)) in
      piece_inside layout heat (piece_in (get_or pieces k d) slot) some laid.whole_bytes granules
      (subst (IsPiece layout) (get_or-map (λ (piece : PieceRule). piece_in piece slot) pieces k d (piece_in d slot) small) ((located row.0 slot row.1 row.2).each k (piece_in d slot) many))
