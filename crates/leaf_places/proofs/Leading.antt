-- Numbers stand at one place each, and groups that begin as others do lead where these lead.
use Rattle.leaf_places.proofs.Imports.{◌≡◌, ℕ, ◌+◌, ◌*◌, ◌<◌, ◌≤◌, Bool, Option, None, Some, IsSomeAnd, false, List, length, sym, ap, ◌∙◌, subst, ⊎_elim, arith, slice_index, cases_lt, div-add-mod', mod-eq_of_lt, div-eq_of_lt, div_self, mod_self, Owner, Bit, owner_at, IsLaidOut, IsLocated, Piece, spots_of, spot_at, spot_count, spot_owned, bit_by, first_by, spot_by, place_in, IsBegun, IsSought, IsWay, StandAlong, StandsAt, Grouped, Sought}

pub below_of : (n m : ℕ) → n ≤ m → (n ≡ m → ⊥) → n < m
below_of n m most other = ⊎_elim (λ (l : n < m). l) (λ (l : m ≤ n). absurd (other (omega (arith, l, most)))) (cases_lt n m)

pub none_some : {A : Type 0} (x : A) → None ≡ Some x → ⊥
none_some x e = cc

pair_same : (s : ℕ × ℕ) (blob bit : ℕ) → s.0 ≡ blob → s.1 ≡ bit → s ≡ (blob, bit)
pair_same s blob bit e f = ap (λ (n : ℕ). (n, s.1)) e ∙ ap (λ (n : ℕ). (blob, n)) f

-- a bit lies where its owner stands
pub bit_where : {layout : List (List Owner)} {slots : ℕ} {widths : List ℕ} (lawful : IsLaidOut layout slots widths) (row leaf width : ℕ) (pieces : List Piece)
    (located : IsLocated layout row leaf width pieces) (k blob bit : ℕ) → k < width → owner_at layout blob bit ≡ Bit row leaf k → spot_at (spots_of pieces) k ≡ (blob, bit)
bit_where {layout} lawful row leaf width pieces located k blob bit inside owned =
    let spot = spot_at (spots_of pieces) k in
    let same = lawful.once spot.0 spot.1 blob bit row leaf k (spot_owned layout row leaf width pieces located k inside) owned in
    pair_same spot blob bit same.0 same.1

pub place_same : (in_bits : Bool) (place other : ℕ) → first_by in_bits place ≡ first_by in_bits other → place ≡ other
place_same in_bits place other e = grind arith

bit_same : (turned : Bool) (first other width : ℕ) → bit_by turned first width 0 ≡ bit_by turned other width 0 → first ≡ other
bit_same turned first other width e = grind arith

-- ---- walks

-- in one group
pub in_one : (base lanes lane block row : ℕ) → row < lanes → spot_by false base lanes lane block row ≡ base + row * lane
in_one base lanes lane block row inside = grind (arith, div-eq_of_lt, mod-eq_of_lt)

-- ---- one row

pub sought_some : {layout : List (List Owner)} {slots : ℕ} {widths : List ℕ} → IsLaidOut layout slots widths → (sought : Sought) → IsSought widths sought → 0 < sought.width
sought_some lawful sought is = omega (arith, is.wide, lawful.wide sought.leaf 0 is.leaf_in)

module _ {layout : List (List Owner)} {slots : ℕ} {widths : List ℕ} (lawful : IsLaidOut layout slots widths) (sought : Sought) (row : ℕ) (pieces : List Piece)
    (is : IsSought widths sought) (located : IsLocated layout row sought.leaf (slice_index widths sought.leaf) pieces) where
  pub some_bits : 0 < sought.width
  some_bits = sought_some lawful sought is

  own : IsLocated layout row sought.leaf sought.width pieces
  own = subst (λ (w : ℕ). IsLocated layout row sought.leaf w pieces) (sym is.wide) located

  pub as_many : length (spots_of pieces) ≡ sought.width
  as_many = spot_count layout row sought.leaf sought.width pieces own

  -- where it stands its bits do
  pub bits_at : (blob place : ℕ) → StandsAt layout sought row blob place → (k : ℕ) → k < sought.width
      → spot_at (spots_of pieces) k ≡ (blob, bit_by sought.is_turned (first_by sought.in_bits place) sought.width k)
  bits_at blob place stands k inside =
      bit_where lawful row sought.leaf sought.width pieces own k blob (bit_by sought.is_turned (first_by sought.in_bits place) sought.width k) inside (stands k inside)

  pub stands_so : (blob first place : ℕ) → first_by sought.in_bits place ≡ first
      → ((k : ℕ) → k < sought.width → spot_at (spots_of pieces) k ≡ (blob, bit_by sought.is_turned first sought.width k)) → StandsAt layout sought row blob place
  stands_so blob first place begins at k inside = grind (arith, spot_owned, own)

  -- its first bit is at the spot of the bit that stands first
  module _ (low blob first : ℕ) (low_in : low < sought.width) (low_first : (n : ℕ) → bit_by sought.is_turned n sought.width low ≡ n)
      (at_low : spot_at (spots_of pieces) low ≡ (blob, first)) where
    pub from_first : (other place : ℕ) → StandsAt layout sought row other place → (blob ≡ other) × (first ≡ first_by sought.in_bits place)
    from_first other place stands =
        let same = sym at_low ∙ bits_at other place stands low low_in ∙ ap (λ (n : ℕ). (other, n)) (low_first (first_by sought.in_bits place)) in
        (ap (λ (s : ℕ × ℕ). s.0) same, ap (λ (s : ℕ × ℕ). s.1) same)

    pub all_from : (other place : ℕ) → StandsAt layout sought row other place
        → (k : ℕ) → k < sought.width → spot_at (spots_of pieces) k ≡ (blob, bit_by sought.is_turned first sought.width k)
    all_from other place stands k inside =
        let same = from_first other place stands in
        bits_at other place stands k inside
        ∙ ap (λ (b : ℕ). (b, bit_by sought.is_turned (first_by sought.in_bits place) sought.width k)) (sym same.0)
        ∙ ap (λ (n : ℕ). (blob, bit_by sought.is_turned n sought.width k)) (sym same.1)

-- ---- groups

pub some_later : (o : Option ℕ) (C : Type 0) (P : ℕ → Type 0) → IsSomeAnd o P → IsSomeAnd o (λ n. C → P n)
some_later o C P holds = grind arith

pub way_begins : (base lanes lane block : ℕ) → 0 < lanes → spot_by false base lanes lane block 0 ≡ base
way_begins base lanes lane block some = in_one base lanes lane block 0 some ∙ omega arith

pub way_of : {layout : List (List Owner)} (sought : Sought) (rows blob base lanes lane block : ℕ) → 0 < lanes
    → StandAlong layout sought rows blob (spot_by false base lanes lane block) → IsWay layout sought rows blob (spot_by false base lanes lane block)
way_of sought rows blob base lanes lane block some along = record { stands = along; upward = λ row. omega (arith, way_begins base lanes lane block some) }

-- where the second group begins
second_group : (base lanes lane block : ℕ) → 0 < lanes → spot_by false base lanes lane block lanes ≡ base + block
second_group base lanes lane block some = grind (arith, div_self, mod_self)

-- groups that follow each other evenly
all_even : (base lanes lane row : ℕ) → spot_by false base lanes lane (lanes * lane) row ≡ base + row * lane
all_even base lanes lane row =
    omega (arith, ap (λ (n : ℕ). n * lane) (div-add-mod' row lanes))

-- groups that begin as others do, and leave an even walk at the same row, are these
module _ (base lanes lane block : ℕ) (some : 0 < lanes) (first step led far : ℕ) (some_led : 0 < led)
    (begins : first ≡ spot_by false base lanes lane block 0) (goes : first + step ≡ spot_by false base lanes lane block 1)
    (even : (row : ℕ) → row < led → first + row * step ≡ spot_by false base lanes lane block row)
    (odd : first + led * step ≡ spot_by false base lanes lane block led → ⊥) (jumps : first + far ≡ spot_by false base lanes lane block led) where
  first_is : first ≡ base
  first_is = begins ∙ way_begins base lanes lane block some

  not_single : lanes ≡ 1 → ⊥
  not_single single = grind (arith, first_is)

  module _ (more : 1 < lanes) where
    step_is : step ≡ lane
    step_is = omega (arith, goes, first_is, in_one base lanes lane block 1 more)

    evenly : (row : ℕ) → spot_by false base lanes lane block row ≡ base + row * lane → first + row * step ≡ spot_by false base lanes lane block row
    evenly row is = ap (λ (n : ℕ). first + row * n) step_is ∙ ap (λ (n : ℕ). n + row * lane) first_is ∙ sym is

    not_below : led < lanes → ⊥
    not_below below = odd (evenly led (in_one base lanes lane block led below))

    not_above : lanes < led → ⊥
    not_above above =
        let there : first + lanes * step ≡ base + block = even lanes above ∙ second_group base lanes lane block some in
        let here : first + lanes * step ≡ base + lanes * lane = ap (λ (n : ℕ). first + lanes * n) step_is ∙ ap (λ (n : ℕ). n + lanes * lane) first_is in
        odd (evenly led (ap (λ (n : ℕ). spot_by false base lanes lane n led) (omega (arith, there, here)) ∙ all_even base lanes lane led))

    lanes_are : led ≡ lanes
    lanes_are = grind (arith, ⊎_elim, not_below, not_above, cases_lt)

    far_is : far ≡ block
    far_is = omega (arith, jumps, first_is, ap (λ (n : ℕ). spot_by false base lanes lane block n) lanes_are ∙ second_group base lanes lane block some)

    same_so : (row : ℕ) → spot_by false first led step far row ≡ spot_by false base lanes lane block row
    same_so row = grind (arith, first_is, lanes_are, step_is, far_is)

  same_way : (row : ℕ) → spot_by false first led step far row ≡ spot_by false base lanes lane block row
  same_way = ⊎_elim (λ (m : 1 < lanes). same_so m) (λ (l : lanes ≤ 1). absurd (not_single (omega (arith, l, some)))) (cases_lt 1 lanes)

-- ---- groups in a search

moved : (layout : List (List Owner)) (sought : Sought) (row blob place other elsewhere : ℕ) → blob ≡ other → place ≡ elsewhere
    → StandsAt layout sought row other elsewhere → StandsAt layout sought row blob place
moved layout sought row blob place other elsewhere e f stands = grind arith

-- a number stands at one place
stands_once : {layout : List (List Owner)} {slots : ℕ} {widths : List ℕ} (lawful : IsLaidOut layout slots widths) (sought : Sought) (some : 0 < sought.width) (row blob place other elsewhere : ℕ)
    → StandsAt layout sought row blob place → StandsAt layout sought row other elsewhere → place ≡ elsewhere
stands_once lawful sought some row blob place other elsewhere here there =
    let same = lawful.once blob (bit_by sought.is_turned (first_by sought.in_bits place) sought.width 0) other (bit_by sought.is_turned (first_by sought.in_bits elsewhere) sought.width 0)
    row sought.leaf 0 (here 0 some) (there 0 some) in
    place_same sought.in_bits place elsewhere (bit_same sought.is_turned (first_by sought.in_bits place) (first_by sought.in_bits elsewhere) sought.width same.1)

module _ {layout : List (List Owner)} {slots : ℕ} {widths : List ℕ} (lawful : IsLaidOut layout slots widths) (sought : Sought) (wide : 0 < sought.width)
    (blob base lanes lane block : ℕ) (some : 0 < lanes) (along : StandAlong layout sought slots blob (spot_by false base lanes lane block))
    (one : Grouped) (begun : IsBegun slots blob (spot_by false base lanes lane block) one) (led : ℕ) (led_in : led < slots)
    (led_all : StandAlong layout sought led one.blob (place_in one)) (astray : StandsAt layout sought led one.blob (place_in one led) → ⊥) where
  in_the_one : (row : ℕ) → row < slots → place_in one row ≡ one.base + row * one.lane
  in_the_one row inside = in_one one.base one.lanes one.lane one.block row (omega (arith, inside, begun.alone))

  stays : (row : ℕ) → row < slots → one.base + row * one.lane ≡ spot_by false base lanes lane block row → StandsAt layout sought row one.blob (place_in one row)
  stays row inside is = moved layout sought row one.blob (place_in one row) blob (spot_by false base lanes lane block row) begun.same_blob (in_the_one row inside ∙ is) (along row inside)

  odd_at : one.base + led * one.lane ≡ spot_by false base lanes lane block led → ⊥
  odd_at is = astray (stays led led_in is)

  pub leaves_later : 0 < led
  leaves_later = grind (arith, ⊎_elim, odd_at, cases_lt)

  even_before : (row : ℕ) → row < led → one.base + row * one.lane ≡ spot_by false base lanes lane block row
  even_before row before =
      let inside : row < slots = omega (arith, before, led_in) in
      sym (in_the_one row inside)
      ∙ stands_once lawful sought wide row one.blob (place_in one row) blob (spot_by false base lanes lane block row) (led_all row before) (along row inside)

  pub ahead_of : one.base ≤ spot_by false base lanes lane block led
  ahead_of = omega (arith, begun.first, (way_of sought slots blob base lanes lane block some along).upward led)

  pub leads_on : (far : ℕ) → one.base + far ≡ spot_by false base lanes lane block led → (row : ℕ) → row < slots → (many : ℕ → ℕ)
      → ((n : ℕ) → many n ≡ spot_by false one.base led one.lane far n) → StandsAt layout sought row one.blob (many row)
  leads_on far jumps row inside many are =
      moved layout sought row one.blob (many row) blob (spot_by false base lanes lane block row) begun.same_blob
      (are row ∙ same_way base lanes lane block some one.base one.lane led far leaves_later begun.first
      (begun.second (omega (arith, leaves_later, led_in))) even_before odd_at jumps row) (along row inside)
