-- A number that is further from 0 than any leaf reaches, and the one that is answered in its place.
use Rattle.csv_rows.proofs.Imports.{◌≡◌, ◌⊎◌, ℕ, suc, ◌^◌, List, ◌≤◌, false, ℤ, pos, negsuc, neg_ℤ, ◌<ℤ◌, Result, Err, Option, Some, None, refl, sym, ap, ◌∙◌, arith, int_le, slice_get, ints, cases_lt, LeafType, least_of, greatest_of, Hold, StoreMode, Strict, store_answer, Range, shortened, folded_near, folded_far, shortened_kept, ◌>>=◌, Place, unspaced, number_behind_sign, the_field, the_number, taken, value_at, RowFault, and_right, and_left, option_map}
use Rattle.csv_rows.proofs.CsvReads.{some_is}

int_le-false : (a b : ℤ) → b <ℤ a → int_le a b ≡ false
int_le-false a b e = grind (arith, ints)

-- above every range, and below
above_all : (kind : LeafType) (n : ℕ) → 2 ^ 65 ≤ n → greatest_of kind <ℤ pos n
above_all kind n far = grind arith

below_all : (kind : LeafType) (n : ℕ) → 2 ^ 65 ≤ suc n → negsuc n <ℤ least_of kind
below_all kind n far = grind arith

far_above : (kind : LeafType) (hold : Hold) (n : ℕ) → 2 ^ 65 ≤ n → store_answer Strict kind hold (pos n) ≡ Err Range
far_above kind hold n far = rw (and_right (int_le (least_of kind) (pos n)) (int_le (pos n) (greatest_of kind)) (int_le-false (pos n) (greatest_of kind) (above_all kind n far))) refl

far_below : (kind : LeafType) (hold : Hold) (n : ℕ) → 2 ^ 65 ≤ suc n → store_answer Strict kind hold (negsuc n) ≡ Err Range
far_below kind hold n far = rw (and_left (int_le (least_of kind) (negsuc n)) (int_le (negsuc n) (greatest_of kind)) (int_le-false (least_of kind) (negsuc n) (below_all kind n far))) refl

-- a strict view refuses both numbers, where they are not one
strict_same : (kind : LeafType) (hold : Hold) (z : ℤ) → (shortened z ≡ z) ⊎ ((store_answer Strict kind hold z ≡ Err Range) × (store_answer Strict kind hold (shortened z) ≡ Err Range))
strict_same kind hold (pos n) = grind (arith, folded_near, far_above, folded_far, cases_lt)
strict_same kind hold (negsuc n) = grind (arith, neg_ℤ, folded_near, folded_far, far_below, cases_lt)

-- so a view of either mode answers both alike: any other keeps the same low bits of both
answer_same : (mode : StoreMode) (kind : LeafType) (hold : Hold) (z : ℤ) → hold.width ≤ 64 → store_answer mode kind hold z ≡ store_answer mode kind hold (shortened z)
answer_same mode kind hold z few = grind (arith, strict_same, shortened_kept)

abbrev value_of : Place → Option ℤ → Result ℤ RowFault
value_of place number = the_number place number >>= (λ value. taken place (store_answer place.mode place.kind place.hold value))

-- the number of a field, as it was asked for
abbrev pub number_in : List ℕ → Option ℤ
number_in field = option_map shortened (number_behind_sign (unspaced field))

clip_of : (place : Place) (number : Option ℤ) (value : ℤ) → place.hold.width ≤ 64 → option_map shortened number ≡ Some value
    → value_of place number ≡ taken place (store_answer place.mode place.kind place.hold value)
clip_of place number value few is = grind (arith, answer_same, some_is)

-- a field that is a number
field_in : (place : Place) (fields : List (List ℕ)) (field : List ℕ) → slice_get fields place.column ≡ Some field → value_at place fields ≡ value_of place (number_behind_sign (unspaced field))
field_in place fields field some = ap (λ (found : Option (List ℕ)). the_field place found >>= (λ text. value_of place (number_behind_sign (unspaced text)))) some

pub value_some : (place : Place) (fields : List (List ℕ)) (value : ℤ) → place.hold.width ≤ 64 → Some (Some value) ≡ option_map number_in (slice_get fields place.column)
    → value_at place fields ≡ taken place (store_answer place.mode place.kind place.hold value)
value_some place fields value few = by (slice_get fields place.column) refl where
  by : (found : Option (List ℕ)) → slice_get fields place.column ≡ found → Some (Some value) ≡ option_map number_in found
      → value_at place fields ≡ taken place (store_answer place.mode place.kind place.hold value)
  by None is some = cc some
  by (Some field) is some = field_in place fields field is ∙ clip_of place (number_behind_sign (unspaced field)) value few (sym (some_is some))
