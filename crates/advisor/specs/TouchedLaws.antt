-- The granules that are touched are those that the accesses to some cells in all rows touch, and a split's are those of its sides.
use Rattle.std.specs.Prelude.{◌≡◌, ℕ, suc, ◌+◌, ◌*◌, ◌/◌, ◌<◌, ◌==◌, Bool, true, List, [], ◌∷◌, map, take, drop, length, get_or, refl, ◌||◌, not, count_by}
use Rattle.advisor.specs.Imports.{sym, ap, ◌∙◌, arith, list_any, range_with_len, fun_ext, true≢false, and_from, eq-eqb, length-map, take-map, drop-map, length-take, get_or-take, get_or-drop, get_or_default, sum_by-append, sum_by-cons, Any-from_list_any, list_any_at, Owner, Pad, Bit, owner_at, IsLaidOut, IsBitOf, renamed, recelled, numbers_of, split, is_bit_of, granules_of}
use Rattle.advisor.specs.Touched.{is_bit_in, holds_bit, touched_blob, touched}
use Rattle.advisor.specs.TouchedBy.{IsTouchedBy}

-- a test along renamed owners
pub any_map : {X Y : Type 0} (test : Y → Bool) (f : X → Y) (xs : List X) → list_any test (map f xs) ≡ list_any (λ x. test (f x)) xs
any_map test f [] = refl
any_map test f (x ∷ xs) = ap (λ b. test (f x) || b) (any_map test f xs)

recelled_bit : (cells : List ℕ) (test : ℕ → Bool) (owner : Owner) →
    is_bit_in test (renamed (λ slot cell bit. Bit slot (get_or cells cell 0) bit) owner) ≡ is_bit_in (λ cell. test (get_or cells cell 0)) owner
recelled_bit cells test owner = grind arith

-- cells under other numbers
module _ (cells : List ℕ) (test : ℕ → Bool) (granule : ℕ) where
  name : Owner → Owner
  name owner = renamed (λ slot cell bit. Bit slot (get_or cells cell 0) bit) owner

  held_renamed : (blob : List Owner) (at : ℕ) → holds_bit test granule (map name blob) at ≡ holds_bit (λ cell. test (get_or cells cell 0)) granule blob at
  unfolding name
  held_renamed blob at = grind (arith, list_any, drop-map, take-map, any_map, fun_ext, recelled_bit)

  blob_renamed : (blob : List Owner) → touched_blob test granule (map name blob) ≡ touched_blob (λ cell. test (get_or cells cell 0)) granule blob
  unfolding name
  blob_renamed blob = grind (arith, count_by, range_with_len, fun_ext, held_renamed, length-map)

  pub touched_recelled : (layout : List (List Owner)) → touched test granule (recelled cells layout) ≡ touched (λ cell. test (get_or cells cell 0)) granule layout
  unfolding name
  touched_recelled [] = refl
  touched_recelled (blob ∷ blobs) =
      sum_by-cons (touched_blob test granule) (map name blob) (recelled cells blobs)
      ∙ (let one = blob_renamed blob in let rest = touched_recelled blobs in omega (arith, one, rest))
      ∙ sym (sum_by-cons (touched_blob (λ cell. test (get_or cells cell 0)) granule) blob blobs)

-- a split touches what its sides touch: they have blobs of their own
pub touched_split : (test : ℕ → Bool) (granule : ℕ) (side : List Bool) (first rest : List (List Owner)) →
    touched test granule (split side first rest)
    ≡ touched (λ cell. test (get_or (numbers_of side) cell 0)) granule first + touched (λ cell. test (get_or (numbers_of (map not side)) cell 0)) granule rest
touched_split test granule side first rest =
    sum_by-append (touched_blob test granule) (recelled (numbers_of side) first) (recelled (numbers_of (map not side)) rest)
    ∙ (let one = touched_recelled (numbers_of side) test granule first in let two = touched_recelled (numbers_of (map not side)) test granule rest in omega (arith, one, two))

-- tests of which each gives the other
pub same_tests : (one two : Bool) → (one ≡ true → two ≡ true) → (two ≡ true → one ≡ true) → one ≡ two
same_tests one two to from = grind arith

bit_is : (test : ℕ → Bool) (owner : Owner) → is_bit_in test owner ≡ true → (row : ℕ) × (cell : ℕ) × (k : ℕ) × (owner ≡ Bit row cell k) × (test cell ≡ true)
bit_is test owner e = grind (arith, true≢false)

pub touched_hot : (layout : List (List Owner)) (slots : ℕ) (widths : List ℕ) → IsLaidOut layout slots widths → (test : ℕ → Bool) (granule blob at : ℕ) →
    IsTouchedBy layout slots (length widths) test granule blob at
touched_hot layout slots widths laid test granule blob at =
    let owners = get_or layout blob [] in
    let start = 8 * granule * at in
    let bits = take (8 * granule) (drop start owners) in
    record {
      some = λ holds.
          (let found = Any-from_list_any (is_bit_in test) bits holds in
          let i = found.0 in
          let low : i < length bits = found.2 in
          let long = length-take (8 * granule) (drop start owners) in
          let small : i < 8 * granule = omega (arith, low, long) in
          let bit = bit_is test found.1 found.4 in
          let here : get_or bits i Pad ≡ Bit bit.0 bit.1 bit.2 = get_or_default bits i Pad found.1 low ∙ found.3 ∙ bit.3 in
          let there : owner_at layout blob (start + i) ≡ Bit bit.0 bit.1 bit.2 = sym (get_or-drop start owners i Pad) ∙ sym (get_or-take (8 * granule) (drop start owners) i Pad small) ∙ here in
          let is : IsBitOf slots widths bit.0 bit.1 bit.2 = laid.owned blob (start + i) bit.0 bit.1 bit.2 there in
          let own : is_bit_of bit.0 bit.1 (Bit bit.0 bit.1 bit.2) ≡ true = and_from (bit.0 == bit.0) (bit.1 == bit.1) (eq-eqb bit.0 bit.0 refl) (eq-eqb bit.1 bit.1 refl) in
          grind (arith, list_any_at));
      only = λ row cell access. grind (arith, Any-from_list_any, list_any_at);
    }

-- tests that agree on the cells of a layout touch the same
module _ (layout : List (List Owner)) (slots : ℕ) (widths : List ℕ) (laid : IsLaidOut layout slots widths) (one two : ℕ → Bool)
    (same : (cell : ℕ) → cell < length widths → one cell ≡ two cell) (granule : ℕ) where
  held_alike : (blob at : ℕ) → holds_bit one granule (get_or layout blob []) at ≡ holds_bit two granule (get_or layout blob []) at
  held_alike blob at =
      let ones = touched_hot layout slots widths laid one granule blob at in
      let twos = touched_hot layout slots widths laid two granule blob at in
      same_tests _ _
      (λ (e : holds_bit one granule (get_or layout blob []) at ≡ true).
      let a = ones.some e in twos.only a.0 a.1 (record { passes = sym (same a.1 a.3) ∙ a.4.passes; hot = a.4.hot }))
      (λ (e : holds_bit two granule (get_or layout blob []) at ≡ true).
      let a = twos.some e in ones.only a.0 a.1 (record { passes = same a.1 a.3 ∙ a.4.passes; hot = a.4.hot }))

  pub touched_alike : touched one granule layout ≡ touched two granule layout
  touched_alike = blobs_alike layout (λ blob small. ap (λ t. count_by t (range_with_len 0 (granules_of granule (length (get_or layout blob []) / 8)))) (fun_ext (λ at. held_alike blob at)))
    where
      blobs_alike : (blobs : List (List Owner)) → ((blob : ℕ) → blob < length blobs → touched_blob one granule (get_or blobs blob []) ≡ touched_blob two granule (get_or blobs blob []))
          → touched one granule blobs ≡ touched two granule blobs
      blobs_alike [] each = refl
      blobs_alike (blob ∷ blobs) each =
          let first : touched_blob one granule blob ≡ touched_blob two granule blob = each 0 (omega arith) in
          let rest : touched one granule blobs ≡ touched two granule blobs = blobs_alike blobs (λ k l. each (suc k) (omega (arith, l))) in
          omega (arith, sum_by-cons (touched_blob one granule) blob blobs, sum_by-cons (touched_blob two granule) blob blobs)
