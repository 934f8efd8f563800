-- Slots whose pieces follow each other by at most a granule touch the granules of one long piece.
use Rattle.advisor.proofs.Imports.{◌≡◌, ℕ, zero, suc, ◌+◌, ◌-◌, ◌*◌, ◌/◌, ◌%◌, ◌<◌, ◌≤◌, ◌^◌, Bool, true, List, ◌∷◌, ◌++◌, sym, ap, ◌∙◌, ⊎_elim, get_or, arith, ◌||◌, nat_lt, list_any, range_with_len, mod-lt, cases_lt, and_from, and_parts, eq-eqb, eqb-true, lt-ltb, ltb-true, get_or-range_with_len, length-range_with_len, Any-from_list_any, list_any_at, list_any-append, div-mul-add, mod-mul-add, div-add-mod', Order, is_in_granule, Piece, HeatCounts, IsInside, begin_in, piece_in, PieceRule, IsSteady, HasSteps, is_run_touched, are_rows_touched, long_piece, same_tests, rules}

-- ---- which slots are

begin_at : (rule : PieceRule) (block lane : ℕ) → lane < rule.lanes → begin_in rule (block * rule.lanes + lane) ≡ rule.base + block * rule.block + lane * rule.lane
begin_at rule block lane low = grind (arith, div-mul-add, mod-mul-add)

module _ (wide : ℕ) (rule : PieceRule) where
  in_block : (block lane : ℕ) → lane + 1 < rule.lanes → begin_in rule (block * rule.lanes + (lane + 1)) ≡ begin_in rule (block * rule.lanes + lane) + rule.lane
  in_block block lane low = grind (arith, begin_at)

  to_block : 0 < rule.lanes → (block : ℕ) → begin_in rule ((block + 1) * rule.lanes + 0) + (rule.lanes - 1) * rule.lane ≡ begin_in rule (block * rule.lanes + (rule.lanes - 1)) + rule.block
  to_block lanes block = grind (arith, begin_at)

  step : HasSteps wide rule → (slot : ℕ) → (begin_in rule slot ≤ begin_in rule (slot + 1)) × (begin_in rule (slot + 1) ≤ begin_in rule slot + wide)
  step steps slot =
      let lanes = rule.some in
      let block = slot / rule.lanes in
      let lane = slot % rule.lanes in
      let parts : block * rule.lanes + lane ≡ slot = div-add-mod' slot rule.lanes in
      let inside : lane < rule.lanes = mod-lt slot lanes in
      let here : begin_in rule (block * rule.lanes + lane) ≡ begin_in rule slot = ap (begin_in rule) parts in
      ⊎_elim
      (λ (low : lane + 1 < rule.lanes).
      (let next : begin_in rule (block * rule.lanes + (lane + 1)) ≡ begin_in rule (slot + 1) = ap (begin_in rule) (omega arith) in
      let more = in_block block lane low in
      (omega (arith, here, next, more), omega (arith, here, next, more, steps.lane))))
      (λ (last : rule.lanes ≤ lane + 1).
      (let all : (block + 1) * rule.lanes ≡ block * rule.lanes + rule.lanes = grind arith in
      let next : begin_in rule ((block + 1) * rule.lanes + 0) ≡ begin_in rule (slot + 1) = ap (begin_in rule) (omega arith) in
      let end : begin_in rule (block * rule.lanes + (rule.lanes - 1)) ≡ begin_in rule slot = ap (begin_in rule) (omega arith) in
      let more = to_block lanes block in
      (omega (arith, end, next, more, steps.on), omega (arith, end, next, more, steps.near))))
      (cases_lt (lane + 1) rule.lanes)

  -- any, where blocks follow each other so, too
  pub all_steady : HasSteps wide rule → (start count : ℕ) → IsSteady wide rule start count
  all_steady steps start count = record {
    on = λ slot l. (let next : begin_in rule (start + slot + 1) ≡ begin_in rule (start + (slot + 1)) = ap (begin_in rule) (omega arith) in
        omega (arith, next, (step steps (start + slot)).0));
    near = λ slot l. (let next : begin_in rule (start + slot + 1) ≡ begin_in rule (start + (slot + 1)) = ap (begin_in rule) (omega arith) in
        omega (arith, next, (step steps (start + slot)).1));
  }

  -- some of them, one behind another
  pub part_steady : (start most first count : ℕ) → IsSteady wide rule start most → first + count ≤ most → IsSteady wide rule (start + first) count
  part_steady start most first count steady fits = record {
    on = λ slot l. (let here : begin_in rule (start + (first + slot)) ≡ begin_in rule (start + first + slot) = ap (begin_in rule) (omega arith) in
        let next : begin_in rule (start + (first + slot + 1)) ≡ begin_in rule (start + first + (slot + 1)) = ap (begin_in rule) (omega arith) in
        omega (arith, here, next, steady.on (first + slot) (omega (arith, l, fits))));
    near = λ slot l. (let here : begin_in rule (start + (first + slot)) ≡ begin_in rule (start + first + slot) = ap (begin_in rule) (omega arith) in
        let next : begin_in rule (start + (first + slot + 1)) ≡ begin_in rule (start + first + (slot + 1)) = ap (begin_in rule) (omega arith) in
        omega (arith, here, next, steady.near (first + slot) (omega (arith, l, fits))));
  }

-- ---- what they touch

next_granule : (granule at : ℕ) → 8 * granule * (at + 1) ≡ 8 * granule * at + 8 * granule
next_granule granule at = grind arith

-- a piece that ends behind a granule's begin and begins before its end
touches : (granule at : ℕ) (piece : Piece) → 1 ≤ granule → 0 < piece.bits → 8 * granule * at < piece.bit + piece.bits → piece.bit < 8 * granule * (at + 1)
    → is_in_granule granule piece.blob at piece ≡ true
touches granule at piece some bits past before = grind (arith, next_granule, and_from, nat_lt, eq-eqb, lt-ltb)

touched : (granule blob at : ℕ) (piece : Piece) → is_in_granule granule blob at piece ≡ true → (piece.blob ≡ blob) × (8 * granule * at < piece.bit + piece.bits) × (piece.bit < 8 * granule * (at + 1))
touched granule blob at piece e = grind (arith, nat_lt, and_parts, ltb-true, eqb-true)

module _ (granule : ℕ) (rule : PieceRule) (start count : ℕ) (some : 1 ≤ granule) (steady : IsSteady (8 * granule) rule start count) where
  later : (slot more : ℕ) → slot + more < count → begin_in rule (start + slot) ≤ begin_in rule (start + (slot + more))
  later slot zero l = (let e : begin_in rule (start + slot) ≡ begin_in rule (start + (slot + 0)) = ap (begin_in rule) (omega arith) in omega (arith, e))
  later slot (suc more) l = grind (arith, (later slot more (omega (arith, l))))

  -- the last slot begins at most so far behind the first
  far : (more : ℕ) → more < count → begin_in rule (start + more) ≤ begin_in rule (start + 0) + more * (8 * granule)
  far zero l = omega arith
  far (suc more) l = grind (arith, (far more (omega (arith, l))))

  between : 0 < rule.bits → (slot at : ℕ) → slot < count → 8 * granule * at < begin_in rule (start + slot) + rule.bits → begin_in rule (start + 0) < 8 * granule * (at + 1)
      → (one : ℕ) × (one < count) × (is_in_granule granule rule.blob at (piece_in rule (start + one)) ≡ true)
  between filled zero at l past before = (0, l, touches granule at (piece_in rule (start + 0)) some filled past before)
  between filled (suc slot) at l past before =
      ⊎_elim
      (λ (low : 8 * granule * at < begin_in rule (start + slot) + rule.bits). between filled slot at (omega (arith, l)) low before)
      (λ (high : begin_in rule (start + slot) + rule.bits ≤ 8 * granule * at).
      (let more = steady.near slot (omega (arith, l)) in
      let same : begin_in rule (start + (slot + 1)) ≡ begin_in rule (start + suc slot) = ap (begin_in rule) (omega arith) in
      let next = next_granule granule at in
      (suc slot, l, touches granule at (piece_in rule (start + suc slot)) some filled past (omega (arith, more, same, high, filled, next)))))
      (cases_lt (8 * granule * at) (begin_in rule (start + slot) + rule.bits))

  -- from the first to the last slot
  pub long_ends : 0 < count → begin_in rule start ≤ begin_in rule (start + (count - 1))
  long_ends any =
      let last = count - 1 in
      let zero_is : begin_in rule (start + 0) ≡ begin_in rule start = ap (begin_in rule) (omega arith) in
      let up : begin_in rule (start + 0) ≤ begin_in rule (start + (0 + last)) = later 0 last (omega (arith, any)) in
      let e : begin_in rule (start + (0 + last)) ≡ begin_in rule (start + last) = ap (begin_in rule) (omega arith) in
      omega (arith, up, e, zero_is)

  pub long_fits : 0 < count → (count - 1) * (8 * granule) + rule.bits < 2 ^ 32 → (long_piece rule start count).bits < 2 ^ 32
  long_fits any narrow = grind (arith, far)

  -- the long piece touches a granule exactly where one of the slots does
  pub long_touches : 0 < count → 0 < rule.bits → (blob at : ℕ) → is_in_granule granule blob at (long_piece rule start count) ≡ is_run_touched granule rule start count blob at
  long_touches any filled blob at =
      let last = count - 1 in
      let slots = range_with_len start count in
      let zero_is : begin_in rule (start + 0) ≡ begin_in rule start = ap (begin_in rule) (omega arith) in
      let end : begin_in rule start ≤ begin_in rule (start + last) = long_ends any in
      same_tests _ _
      (λ (e : is_in_granule granule blob at (long_piece rule start count) ≡ true).
      (let t = touched granule blob at (long_piece rule start count) e in
      let found = between filled last at (omega (arith, any)) (omega (arith, t.1, end)) (omega (arith, t.2, zero_is)) in
      let one = found.0 in
      let here : get_or slots one 0 ≡ start + one = get_or-range_with_len start count one 0 found.1 in
      let hit : is_in_granule granule blob at (piece_in rule (start + one)) ≡ true =
      ap (λ (b : ℕ). is_in_granule granule b at (piece_in rule (start + one))) (sym t.0) ∙ found.2 in
      grind (arith, list_any_at, length-range_with_len)))
      (λ (e : list_any (λ slot. is_in_granule granule blob at (piece_in rule slot)) slots ≡ true).
      (let found = Any-from_list_any (λ slot. is_in_granule granule blob at (piece_in rule slot)) slots e in
      let k = found.0 in
      let small : k < count = omega (arith, found.2, length-range_with_len start count) in
      let slot : found.1 ≡ start + k = sym found.3 ∙ get_or-range_with_len start count k found.1 small in
      let t = touched granule blob at (piece_in rule found.1) found.4 in
      let same : begin_in rule found.1 ≡ begin_in rule (start + k) = ap (begin_in rule) slot in
      let first : begin_in rule (start + 0) ≤ begin_in rule (start + (0 + k)) = later 0 k (omega (arith, small)) in
      let zero_k : begin_in rule (start + (0 + k)) ≡ begin_in rule (start + k) = ap (begin_in rule) (omega arith) in
      let rest : k + (last - k) ≡ last = omega (arith, small) in
      let up : begin_in rule (start + k) ≤ begin_in rule (start + (k + (last - k))) = later k (last - k) (omega (arith, small, rest, any)) in
      let top : begin_in rule (start + (k + (last - k))) ≡ begin_in rule (start + last) = ap (λ (n : ℕ). begin_in rule (start + n)) rest in
      grind arith))

-- what two pieces make is the long piece from the one to the other
pub long_is : (rule : PieceRule) (start count bits : ℕ) (first last : Piece) → first ≡ piece_in rule start → last ≡ piece_in rule (start + (count - 1)) → bits ≡ rule.bits
    → (let p : Piece = record first { bits = last.bit + bits - first.bit } in p) ≡ long_piece rule start count
long_is rule start count bits first last begins ends wide = grind arith

-- a long piece lies in the granules that its last slot lies in
pub long_inside : (heat : HeatCounts) (rule : PieceRule) (start count : ℕ) → begin_in rule start ≤ begin_in rule (start + (count - 1))
    → IsInside heat (piece_in rule (start + (count - 1))) → IsInside heat (long_piece rule start count)
long_inside heat rule start count end last = grind arith

-- ---- more slots

-- some numbers, and those behind them
pub range_cut : (a m n : ℕ) → range_with_len a (m + n) ≡ range_with_len a m ++ range_with_len (a + m) n
range_cut a zero n = grind (arith, range_with_len)
range_cut a (suc m) n =
    let e : suc m + n ≡ suc (m + n) = omega arith in
    let next : a + 1 + m ≡ a + suc m = omega arith in
    ap (range_with_len a) e ∙ ap (λ (ns : List ℕ). a ∷ ns) (range_cut (a + 1) m n ∙ ap (λ (k : ℕ). range_with_len (a + 1) m ++ range_with_len k n) next)

any_cut : (p : ℕ → Bool) (a m n : ℕ) → list_any p (range_with_len a (m + n)) ≡ (list_any p (range_with_len a m) || list_any p (range_with_len (a + m) n))
any_cut p a m n = ap (list_any p) (range_cut a m n) ∙ list_any-append p (range_with_len a m) (range_with_len (a + m) n)

pub touched_more : (granule : ℕ) (rule : PieceRule) (start done more : ℕ) (blob at : ℕ)
    → is_run_touched granule rule start (done + more) blob at ≡ (is_run_touched granule rule start done blob at || is_run_touched granule rule (start + done) more blob at)
touched_more granule rule start done more blob at = any_cut (λ slot. is_in_granule granule blob at (piece_in rule slot)) start done more

pub rows_more : (granule : ℕ) (order : Order) (extents : List ℕ) (rules : List PieceRule) (slot more : ℕ) (blob at : ℕ)
    → are_rows_touched granule order extents rules 0 (slot + more) blob at
    ≡ (are_rows_touched granule order extents rules 0 slot blob at || are_rows_touched granule order extents rules slot more blob at)
rows_more granule order extents rules slot more blob at = grind (arith, any_cut, list_any)
