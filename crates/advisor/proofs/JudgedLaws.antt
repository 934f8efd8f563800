-- What the answers of a mapping's constructor say of an expression with the limits of granules.
use Rattle.advisor.proofs.Imports.{◌≡◌, ℕ, ◌*◌, ◌^◌, ◌<◌, ◌≤◌, ◌⊎◌, ⊎_elim, inl, inr, Bool, true, false, List, length, Ok, Err, refl, sym, nat_lt, nat_le, sum_by, Result, true≢false, or_left, or_right, or_from, lt-ltb, le-ltb, leb-false, cases_lt, Fields, Owner, Cell, Term, BadMapping, NotFull, good_parts, layout_of, most_slots, accepted, not_full, IsTooBigFor, IsRefusal, MakeMap, Bad, TooBig, NoMemory, granules_in, blob_lengths, is_over, limited, judged, arith}

limited_bad : (over : Bool) (bad : BadMapping) → limited over (Err bad) ≡ Err (Bad bad)
limited_bad over bad = grind arith

-- what no plan is made of though it is accepted is over a limit
pub plan_refused : (term : Term) (extents : List ℕ) (fields : Fields) (cells : List Cell) → accepted term fields cells ≡ Ok tt → (e : MakeMap)
    → (e ≡ TooBig → IsTooBigFor term extents fields cells) → (e ≡ Bad NotFull → not_full term fields cells ≡ true) → (e ≡ TooBig) ⊎ ((e ≡ Bad NotFull) ⊎ (e ≡ NoMemory))
    → IsRefusal term extents fields cells e
plan_refused term extents fields cells good e big part only = grind (arith, true≢false, good_parts)

module _ (granule : ℕ) (term : Term) (extents : List ℕ) (fields : Fields) (cells : List Cell) where
  abbrev slots : ℕ
  slots = most_slots term extents

  abbrev bits : ℕ
  bits = sum_by (length {A = Owner}) (layout_of term extents fields cells)

  abbrev granules : ℕ
  granules = granules_in granule (blob_lengths (layout_of term extents fields cells))

  over_slots : 2 ^ 24 < slots → is_over granule term extents fields cells ≡ true
  over_slots many = or_left (nat_lt (2 ^ 24) slots) _ (lt-ltb (2 ^ 24) slots many)

  over_bits : 8 * 2 ^ 28 < bits → is_over granule term extents fields cells ≡ true
  over_bits many = or_right (nat_lt (2 ^ 24) slots) _ (or_left (nat_lt (8 * 2 ^ 28) bits) _ (lt-ltb (8 * 2 ^ 28) bits many))

  pub over_granules : nat_le granules (2 ^ 24) ≡ false → is_over granule term extents fields cells ≡ true
  over_granules many = grind (arith, or_right, nat_lt, lt-ltb, leb-false)

  few_of : (most many : ℕ) → (most < many → ⊥) → nat_lt most many ≡ false
  few_of most many few = le-ltb most many (⊎_elim (λ (l : most < many). absurd (few l)) (λ (l : many ≤ most). l) (cases_lt most many))

  pub within : (IsTooBigFor term extents fields cells → ⊥) → granules ≤ 2 ^ 24 → is_over granule term extents fields cells ≡ false
  within fits few = grind (arith, or_from, nat_lt, few_of, le-ltb)

  too_big : is_over granule term extents fields cells ≡ true → accepted term fields cells ≡ Ok tt → judged granule term extents fields cells ≡ Err TooBig
  unfolding judged
  too_big over good = grind arith

  pub judged_good : accepted term fields cells ≡ Ok tt → (IsTooBigFor term extents fields cells → ⊥) → granules ≤ 2 ^ 24 → judged granule term extents fields cells ≡ Ok tt
  unfolding judged
  judged_good good fits few = grind arith

  pub judged_many : accepted term fields cells ≡ Ok tt → false ≡ nat_le granules (2 ^ 24) → judged granule term extents fields cells ≡ Err TooBig
  judged_many good many = too_big (over_granules (sym many)) good

  pub judged_refused : (e : MakeMap) → IsRefusal term extents fields cells e → (e ≡ NoMemory) ⊎ (judged granule term extents fields cells ≡ Err e)
  unfolding judged
  judged_refused (Bad bad) refused = grind (arith, limited_bad)
  judged_refused TooBig refused = inr (too_big (⊎_elim over_slots over_bits refused.1) refused.0)
  judged_refused NoMemory refused = inl refl

-- the same of the extents and the record that a view tells
module _ (granule : ℕ) (term : Term) (cells : List Cell) (extents told : List ℕ) (fields trees : Fields) (same_extents : told ≡ extents) (same_fields : trees ≡ fields) where
  moved : (answer : Result Unit MakeMap) → judged granule term told trees cells ≡ answer → judged granule term extents fields cells ≡ answer
  moved answer is = grind arith

  pub told_good : accepted term trees cells ≡ Ok tt → (IsTooBigFor term told trees cells → ⊥) → (layout : List (List Owner)) → layout ≡ layout_of term told trees cells
      → granules_in granule (blob_lengths layout) ≤ 2 ^ 24 → judged granule term extents fields cells ≡ Ok tt
  told_good good fits layout is few = grind (arith, judged_good)

  pub told_many : accepted term trees cells ≡ Ok tt → (layout : List (List Owner)) → layout ≡ layout_of term told trees cells
      → false ≡ nat_le (granules_in granule (blob_lengths layout)) (2 ^ 24) → judged granule term extents fields cells ≡ Err TooBig
  told_many good layout is many = grind (arith, judged_many, nat_le)

  pub told_refused : (e : MakeMap) → IsRefusal term told trees cells e → (e ≡ NoMemory) ⊎ (judged granule term extents fields cells ≡ Err e)
  told_refused e refused = ⊎_elim (λ (none : e ≡ NoMemory). inl none) (λ (is : judged granule term told trees cells ≡ Err e). inr (moved (Err e) is)) (judged_refused granule term told trees cells e refused)
