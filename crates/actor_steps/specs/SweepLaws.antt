-- What an actor makes of one leaf of a row, byte after byte.
use Rattle.std.specs.Prelude.{◌≡◌, ℕ, ◌+◌, ◌*◌, ◌/◌, ◌%◌, ◌<◌, Bool, true, false, ℤ, List, [], ◌∷◌, map, refl, ◌==◌, ◌&&◌, ◌||◌, if◌then◌else◌}
use Rattle.actor_steps.specs.Imports.{cond_both, true≢false, sym, ap, ◌∙◌, arith, flat_map, list_any, bit_at, and_from, and_parts, eq-eqb, eqb-true, bit_at-lt, Owner, Pad, Bit, owner_at, digit, written_bit, number_lt, bit_number, digit_lt, bit_in, AreSized, Setting}
use Rattle.actor_steps.specs.ConfluenceLaws.{Each, made_all, loaded_all}
use Rattle.actor_steps.specs.Micro.{Place, byte_at, with_byte, Job, Fetch, Load, Store, Registers, row_in, value_kept_on, with_bits_of, stored, loaded, changes}
use Rattle.actor_steps.specs.Bytes.{IsByte}
use Rattle.actor_steps.specs.BytesOfLaws.{with_byte-sized, byte_at-other, byte_at-same}

-- whether a byte is this place, and whether it is one of these
abbrev pub is_place : ℕ → ℕ → Place → Bool
is_place blob byte place = place.blob == blob && place.byte == byte

abbrev pub is_among : List Place → ℕ → ℕ → Bool
is_among places blob byte = list_any (is_place blob byte) places

-- all these places are bytes of the layout
abbrev pub AreBytesOf : List (List Owner) → List Place → Type 0
AreBytesOf layout places = Each (IsByte layout) places

-- a byte is a place where the test says so
pub place_is : (b i : ℕ) (place : Place) → is_place b i place ≡ true → place ≡ record { blob = b; byte = i }
place_is b i place e =
    let both = and_parts (place.blob == b) (place.byte == i) e in
    ap (λ (w : ℕ). record { blob = w; byte = place.byte }) (eqb-true place.blob b both.0) ∙ ap (λ (w : ℕ). record { blob = b; byte = w }) (eqb-true place.byte i both.1)

-- the bits of memory with another byte at a place
pub bit_in-with_byte : (layout : List (List Owner)) (memory : List (List ℕ)) (place : Place) (byte : ℕ) (b p : ℕ) → AreSized layout memory → IsByte layout place
    → bit_in (with_byte memory place byte) b p ≡ (if is_place b (p / 8) place then bit_at byte (p % 8) else bit_in memory b p)
bit_in-with_byte layout memory place byte b p sized is =
    cond_both (is_place b (p / 8) place) (bit_at byte (p % 8)) (bit_in memory b p) (λ (w : ℕ). bit_in (with_byte memory place byte) b p ≡ w)
    (λ e. ap (λ (w : Place). bit_at (byte_at (with_byte memory place byte) w) (p % 8)) (sym (place_is b (p / 8) place e))
    ∙ ap (λ (w : ℕ). bit_at w (p % 8)) (byte_at-same layout memory place byte sized is))
    (λ e. ap (λ (w : ℕ). bit_at w (p % 8)) (byte_at-other memory place byte (record { blob = b; byte = p / 8 })
    (λ both. true≢false (sym (and_from (place.blob == b) (place.byte == p / 8) (eq-eqb place.blob b (sym both.0)) (eq-eqb place.byte (p / 8) (sym both.1))) ∙ e))))

-- a bit that is written is a bit
written_lt : (owner : Owner) (row leaf : ℕ) (value : ℤ) (old : ℕ) → old < 2 → written_bit owner row leaf value old < 2
written_lt Pad row leaf value old low = low
written_lt (Bit s c k) row leaf value old low = cond_both ((s == row) && (c == leaf)) (digit value k) old (λ (n : ℕ). n < 2) (λ e. digit_lt value k) (λ e. low)

-- a byte in which only the bits of a leaf in a row are changed is a byte, and its bits
pub with_bits_of-lt : (layout : List (List Owner)) (place : Place) (row leaf : ℕ) (value : ℤ) (byte : ℕ) → with_bits_of layout place row leaf value byte < 256
with_bits_of-lt layout place row leaf value byte = grind (arith, number_lt, bit_at, written_lt, bit_at-lt)

pub bit_at-with_bits_of : (layout : List (List Owner)) (place : Place) (row leaf : ℕ) (value : ℤ) (byte k : ℕ) → k < 8
    → bit_at (with_bits_of layout place row leaf value byte) k ≡ written_bit (owner_at layout place.blob (8 * place.byte + k)) row leaf value (bit_at byte k)
bit_at-with_bits_of layout place row leaf value byte k inside =
    bit_number (λ bit. written_bit (owner_at layout place.blob (8 * place.byte + bit)) row leaf value (bit_at byte bit)) 8 k
    (λ j l. written_lt (owner_at layout place.blob (8 * place.byte + j)) row leaf value (bit_at byte j) (bit_at-lt byte j)) inside

-- written twice is written once
pub written-twice : (owner : Owner) (row leaf : ℕ) (value : ℤ) (old : ℕ) → written_bit owner row leaf value (written_bit owner row leaf value old) ≡ written_bit owner row leaf value old
written-twice Pad row leaf value old = refl
written-twice (Bit s c k) row leaf value old = by_test ((s == row) && (c == leaf)) where
  by_test : (test : Bool) → (if test then digit value k else (if test then digit value k else old)) ≡ (if test then digit value k else old)
  by_test true = refl
  by_test false = refl

module _ (job : Job) (row : ℕ) (set : Setting) where
  -- memory after one byte is loaded and stored
  one_byte : Place → List (List ℕ) → Registers → List (List ℕ)
  one_byte place memory registers = stored job (Store place row set) memory (loaded job (Load place) memory registers)

  one_bit : (place : Place) (memory : List (List ℕ)) (registers : Registers) (b p : ℕ) → AreSized job.layout memory → IsByte job.layout place
      → bit_in (one_byte place memory registers) b p
      ≡ (if is_place b (p / 8) place then written_bit (owner_at job.layout b p) row set.leaf (value_kept_on job (row_in job registers.loaded row) row set) (bit_in memory b p) else bit_in memory b p)
  unfolding one_byte
  one_bit place memory registers b p sized is =
      let value = value_kept_on job (row_in job registers.loaded row) row set in
      let byte = with_bits_of job.layout place row set.leaf value (byte_at memory place) in
      bit_in-with_byte job.layout memory place byte b p sized is ∙ by_test (is_place b (p / 8) place) refl where
        by_test : (test : Bool) → is_place b (p / 8) place ≡ test
            → (if test then bit_at (with_bits_of job.layout place row set.leaf (value_kept_on job (row_in job registers.loaded row) row set) (byte_at memory place)) (p % 8) else bit_in memory b p)
            ≡ (if test then written_bit (owner_at job.layout b p) row set.leaf (value_kept_on job (row_in job registers.loaded row) row set) (bit_in memory b p) else bit_in memory b p)
        by_test true e =
            let value = value_kept_on job (row_in job registers.loaded row) row set in
            let whole : 8 * (p / 8) + p % 8 ≡ p = omega arith in
            bit_at-with_bits_of job.layout place row set.leaf value (byte_at memory place) (p % 8) (omega arith)
            ∙ ap (λ (w : Place). written_bit (owner_at job.layout w.blob (8 * w.byte + p % 8)) row set.leaf value (bit_at (byte_at memory w) (p % 8))) (place_is b (p / 8) place e)
            ∙ ap (λ (q : ℕ). written_bit (owner_at job.layout b q) row set.leaf value (bit_in memory b p)) whole
        by_test false e = refl

  one_sized : (place : Place) (memory : List (List ℕ)) (registers : Registers) → AreSized job.layout memory → AreSized job.layout (one_byte place memory registers)
  unfolding one_byte
  one_sized place memory registers sized =
      with_byte-sized job.layout memory place (with_bits_of job.layout place row set.leaf (value_kept_on job (row_in job registers.loaded row) row set) (byte_at memory place)) sized

  -- memory after all bytes of a leaf are loaded and stored
  pub sweep : (places : List Place) (memory : List (List ℕ)) (registers : Registers) (b p : ℕ) → AreSized job.layout memory → AreBytesOf job.layout places
      → bit_in (made_all (stored job) (loaded job) (flat_map (changes row set) places) memory registers) b p
      ≡ (if is_among places b (p / 8) then written_bit (owner_at job.layout b p) row set.leaf (value_kept_on job (row_in job registers.loaded row) row set) (bit_in memory b p) else bit_in memory b p)
  unfolding one_byte
  sweep [] memory registers b p sized are = refl
  sweep (place ∷ places) memory registers b p sized are =
      let value = value_kept_on job (row_in job registers.loaded row) row set in
      let next = one_byte place memory registers in
      sweep places next (record registers { byte = byte_at memory place }) b p (one_sized place memory registers sized) are.1
      ∙ ap (λ (old : ℕ). if is_among places b (p / 8) then written_bit (owner_at job.layout b p) row set.leaf value old else old) (one_bit place memory registers b p sized are.0)
      ∙ by_tests (is_place b (p / 8) place) (is_among places b (p / 8)) where
        by_tests : (here there : Bool)
            → (if there then written_bit (owner_at job.layout b p) row set.leaf (value_kept_on job (row_in job registers.loaded row) row set)
            (if here then written_bit (owner_at job.layout b p) row set.leaf (value_kept_on job (row_in job registers.loaded row) row set) (bit_in memory b p) else bit_in memory b p)
            else (if here then written_bit (owner_at job.layout b p) row set.leaf (value_kept_on job (row_in job registers.loaded row) row set) (bit_in memory b p) else bit_in memory b p))
            ≡ (if (here || there) then written_bit (owner_at job.layout b p) row set.leaf (value_kept_on job (row_in job registers.loaded row) row set) (bit_in memory b p) else bit_in memory b p)
        by_tests true true = written-twice (owner_at job.layout b p) row set.leaf (value_kept_on job (row_in job registers.loaded row) row set) (bit_in memory b p)
        by_tests true false = refl
        by_tests false true = refl
        by_tests false false = refl

  pub sweep_sized : (places : List Place) (memory : List (List ℕ)) (registers : Registers) → AreSized job.layout memory
      → AreSized job.layout (made_all (stored job) (loaded job) (flat_map (changes row set) places) memory registers)
  unfolding one_byte
  sweep_sized [] memory registers sized = sized
  sweep_sized (place ∷ places) memory registers sized =
      sweep_sized places (one_byte place memory registers) (record registers { byte = byte_at memory place }) (one_sized place memory registers sized)

  -- the bytes that were loaded for values stand
  pub sweep_loaded : (places : List Place) (memory : List (List ℕ)) (registers : Registers)
      → (loaded_all (stored job) (loaded job) (flat_map (changes row set) places) memory registers).loaded ≡ registers.loaded
  unfolding one_byte
  sweep_loaded [] memory registers = refl
  sweep_loaded (place ∷ places) memory registers = sweep_loaded places (one_byte place memory registers) (record registers { byte = byte_at memory place })

module _ (job : Job) where
  -- memory stands while bytes are loaded for values
  pub fetch_memory : (places : List Place) (memory : List (List ℕ)) (registers : Registers)
      → made_all (stored job) (loaded job) (map Fetch places) memory registers ≡ memory
  fetch_memory [] memory registers = refl
  fetch_memory (place ∷ places) memory registers = fetch_memory places memory (record registers { loaded = with_byte registers.loaded place (byte_at memory place) })

  -- the bits of what was loaded
  pub fetch : (places : List Place) (memory : List (List ℕ)) (registers : Registers) (b p : ℕ) → AreSized job.layout registers.loaded → AreBytesOf job.layout places
      → bit_in (loaded_all (stored job) (loaded job) (map Fetch places) memory registers).loaded b p
      ≡ (if is_among places b (p / 8) then bit_in memory b p else bit_in registers.loaded b p)
  fetch [] memory registers b p sized are = refl
  fetch (place ∷ places) memory registers b p sized are =
      let next = with_byte registers.loaded place (byte_at memory place) in
      fetch places memory (record registers { loaded = next }) b p (with_byte-sized job.layout registers.loaded place (byte_at memory place) sized) are.1
      ∙ ap (λ (old : ℕ). if is_among places b (p / 8) then bit_in memory b p else old)
      (bit_in-with_byte job.layout registers.loaded place (byte_at memory place) b p sized are.0)
      ∙ by_tests (is_place b (p / 8) place) (is_among places b (p / 8)) refl where
        by_tests : (here there : Bool) → is_place b (p / 8) place ≡ here
            → (if there then bit_in memory b p else (if here then bit_at (byte_at memory place) (p % 8) else bit_in registers.loaded b p))
            ≡ (if (here || there) then bit_in memory b p else bit_in registers.loaded b p)
        by_tests true true e = refl
        by_tests true false e = ap (λ (w : Place). bit_at (byte_at memory w) (p % 8)) (place_is b (p / 8) place e)
        by_tests false true e = refl
        by_tests false false e = refl

  pub fetch_sized : (places : List Place) (memory : List (List ℕ)) (registers : Registers) → AreSized job.layout registers.loaded
      → AreSized job.layout (loaded_all (stored job) (loaded job) (map Fetch places) memory registers).loaded
  fetch_sized [] memory registers sized = sized
  fetch_sized (place ∷ places) memory registers sized =
      fetch_sized places memory (record registers { loaded = with_byte registers.loaded place (byte_at memory place) })
      (with_byte-sized job.layout registers.loaded place (byte_at memory place) sized)
