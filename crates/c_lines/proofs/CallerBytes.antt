-- Numbers as bytes, part by part.
use Rattle.c_lines.proofs.Imports.{◌≡◌, ◌/◌, if◌then◌else◌, nat_eq, true, false, NoPlace, BadType, given_or, is_run, is_width, sized, was_set_run, after_set_run, was_set_run_as, after_set_run_as, ℕ, zero, suc, ◌+◌, ◌*◌, ◌<◌, ◌≤◌, ◌%◌, ◌^◌, Bool, ℤ, pos, negsuc, List, [], ◌∷◌, ◌++◌, length, map, take, drop, get_or, Option, Some, None, Ok, Err, w64, refl, sym, ap, ◌∙◌, arith, ints, cast_unsigned, of_z-to_z, drop-drop, get_or-take, length-drop, length-take-le, option_or, low_64, stored_count, with_run, Table, LaneFault, after_stores, column_writes, kept_of, with_column, take-take, answer_of, lane_inside, bytes_of_numbers, number_in, numbers_in, told_run, IsFrontStored, IsSet, ext_get_or, get_or-drop, get_or-map-range_with_len, length-map-range_with_len, Refusal, Answer, IsWithin64, run_fault, little_bytes, low_bytes}
use Rattle.c_lines.proofs.Parts.{fault_parts}

-- ---- numbers that are read

-- the bits of a number of 64 bits are as many
few_bits : (value : ℤ) → IsWithin64 value → cast_unsigned w64 value < 2 ^ 64
few_bits (pos n) within = omega (arith, ints, within.1)
few_bits (negsuc n) within = omega (arith, ints, within.0)

-- so its low bits have its bytes
pub bytes_of_lows : (size : ℕ) (values : List ℤ) → ((k : ℕ) → k < length values → IsWithin64 (get_or values k (pos 0))) → bytes_of_numbers size (map low_64 values) ≡ bytes_of_numbers size values
bytes_of_lows size [] within = refl
bytes_of_lows size (value ∷ values) within =
    let same : cast_unsigned w64 (low_64 value) ≡ cast_unsigned w64 value = of_z-to_z w64 (cast_unsigned w64 value) (few_bits value (within zero (omega arith))) in
    ap (λ (n : ℕ). little_bytes size (n % 2 ^ (8 * size)) ++ bytes_of_numbers size (map low_64 values)) same
    ∙ ap (λ (bytes : List ℕ). little_bytes size (low_bytes w64 size value) ++ bytes) (bytes_of_lows size values (λ k below. within (suc k) (omega (arith, below))))

-- ---- numbers that are stored

-- some of the numbers in bytes are those in some of the bytes
pub numbers_within : (sign : Bool) (size count done part : ℕ) (bytes : List ℕ) → done + part ≤ count
    → numbers_in sign size part (drop (size * done) bytes) ≡ take part (drop done (numbers_in sign size count bytes))
numbers_within sign size count done part bytes inside =
    let at = λ (i : ℕ). number_in sign size (drop (size * i) bytes) in
    let behind = λ (i : ℕ). number_in sign size (drop (size * i) (drop (size * done) bytes)) in
    let all = numbers_in sign size count bytes in
    let some = numbers_in sign size part (drop (size * done) bytes) in
    let many : length some ≡ part = length-map-range_with_len behind 0 part in
    let room : part ≤ length (drop done all) = omega (arith, inside, length-drop done all, length-map-range_with_len at 0 count) in
    ext_get_or (pos 0) some (take part (drop done all)) (many ∙ sym (length-take-le part (drop done all) room))
    (λ i below.
    let short : i < part = omega (arith, below, many) in
    let place : size * done + size * i ≡ size * (done + i) = omega arith in
    get_or-map-range_with_len behind 0 part i i (pos 0) short (omega arith)
    ∙ ap (number_in sign size) (drop-drop (size * i) (size * done) bytes ∙ ap (λ (n : ℕ). drop n bytes) place)
    ∙ sym (get_or-map-range_with_len at 0 count (done + i) (done + i) (pos 0) (omega (arith, short, inside)) (omega arith))
    ∙ sym (get_or-drop done all i (pos 0)) ∙ sym (get_or-take part (drop done all) i (pos 0) short))

-- a front that is stored
no_fault : (first leaf : ℕ) (cause : Option LaneFault) → Ok tt ≡ told_run first leaf cause → cause ≡ None
no_fault first leaf None told = refl
no_fault first leaf (Some fault) told = absurd (cc told)

pub front_set : (first leaf part : ℕ) (values : List ℤ) (old new : Table) → part ≤ length values → IsSet first leaf (take part values) old new (Ok tt) → IsFrontStored leaf first values old new (Ok part)
front_set first leaf part values old new inside is =
    let none = no_fault first leaf (run_fault leaf (take part values) old) is.told in
    let many = length-take-le part values inside in (
      none,
      is.left ∙ ap (λ (f : Option LaneFault). with_run leaf first (take part values) (stored_count (length (take part values)) f) old) none
          ∙ ap (λ (n : ℕ). with_run leaf first (take part values) n old) many
          ∙ ap (λ (vs : List ℤ). after_stores old (with_column leaf first (map (kept_of old leaf) vs) old.rows) (column_writes leaf first part)) (take-take part part values (omega arith)),
    )

-- and one of which a number is refused
first_fault : (first leaf : ℕ) (cause later : Option LaneFault) (refusal : Refusal) → Err refusal ≡ told_run first leaf cause → option_or cause later ≡ cause
first_fault first leaf None later refusal told = absurd (cc told)
first_fault first leaf (Some fault) later refusal told = refl

front_left : (first leaf part : ℕ) (values : List ℤ) (old : Table) (cause : Option LaneFault) (refusal : Refusal) → part ≤ length values → run_fault leaf (take part values) old ≡ cause → Err refusal ≡ told_run first leaf cause
    → with_run leaf first (take part values) (stored_count (length (take part values)) cause) old ≡ with_run leaf first values (stored_count (length values) cause) old
front_left first leaf part values old None refusal inside is told = absurd (cc told)
front_left first leaf part values old (Some fault) refusal inside is told =
    let few : fault.lane ≤ part = omega (arith, lane_inside (answer_of old) leaf 0 (take part values) fault is, length-take-le part values inside) in
    ap (λ (vs : List ℤ). after_stores old (with_column leaf first (map (kept_of old leaf) vs) old.rows) (column_writes leaf first fault.lane)) (take-take fault.lane part values few)

pub front_refused_set : (first leaf part : ℕ) (values : List ℤ) (old new : Table) (refusal : Refusal) → part ≤ length values → IsSet first leaf (take part values) old new (Err refusal)
    → IsSet first leaf values old new (Err refusal)
front_refused_set first leaf part values old new refusal inside is =
    let cause = run_fault leaf (take part values) old in
    let same : run_fault leaf values old ≡ cause = fault_parts leaf part values old inside ∙ first_fault first leaf cause _ refusal is.told in
    record {
      told = is.told ∙ ap (told_run first leaf) (sym same);
      left = is.left ∙ front_left first leaf part values old cause refusal inside refl is.told ∙ ap (λ (f : Option LaneFault). with_run leaf first values (stored_count (length values) f) old) (sym same);
    }

-- ---- a call on bytes that are those of numbers

sized_by : {A : Type 0} (wide whole : Bool) (own size len : ℕ) (call : ℕ → ℕ → Answer A) → Ok size ≡ (if wide then (if whole then Ok own else Err NoPlace) else Err BadType)
    → (if wide then (if whole then call own (len / own) else Err NoPlace) else Err BadType) ≡ call size (len / size)
sized_by true true own size len call is = (let same : own ≡ size = cc in ap (λ (n : ℕ). call n (len / n)) same)
sized_by wide whole own size len call is = absurd (cc is)

module _ (bits : ℕ) (sign : Bool) (first leaf size : ℕ) (bytes : List ℕ) (table : Table) (is : Ok size ≡ sized bits (length bytes) (λ size count. Ok size)) where
  abbrev numbers : List ℤ
  numbers = numbers_in sign size (length bytes / size) bytes

  many : length numbers ≡ length bytes / size
  many = length-map-range_with_len (λ (k : ℕ). number_in sign size (drop (size * k) bytes)) 0 (length bytes / size)

  told_as : {A : Type 0} (call : ℕ → ℕ → Answer A) → sized bits (length bytes) call ≡ call size (length bytes / size)
  told_as call = sized_by (is_width bits) (nat_eq (length bytes % (bits / 8)) 0) (bits / 8) size (length bytes) call is

  is_there : (there : Bool) → there ≡ is_run table first (length bytes / size) leaf → is_run table first (length numbers) leaf ≡ there
  is_there there run = ap (λ (n : ℕ). is_run table first n leaf) many ∙ sym run

  was : was_set_run_as bits sign first bytes leaf table ≡ was_set_run first leaf numbers table
  was = told_as (λ size count. was_set_run first leaf (numbers_in sign size count bytes) table)

  after : after_set_run_as bits sign first bytes leaf table ≡ after_set_run first leaf numbers table
  after = ap (given_or table) (told_as (λ size count. Ok (after_set_run first leaf (numbers_in sign size count bytes) table)))

  pub set_as : (new : Table) (answer : Answer (Unit {0})) → true ≡ is_run table first (length bytes / size) leaf → IsSet first leaf numbers table new answer
      → (answer ≡ was_set_run_as bits sign first bytes leaf table) × (new ≡ after_set_run_as bits sign first bytes leaf table)
  set_as new answer run set = (set.told ∙ rw (is_there true run) refl ∙ sym was, set.left ∙ rw (is_there true run) refl ∙ sym after)

  pub no_rows : false ≡ is_run table first (length bytes / size) leaf → (Err NoPlace ≡ was_set_run_as bits sign first bytes leaf table) × (table ≡ after_set_run_as bits sign first bytes leaf table)
  no_rows run = (rw (is_there false run) refl ∙ sym was, rw (is_there false run) refl ∙ sym after)
