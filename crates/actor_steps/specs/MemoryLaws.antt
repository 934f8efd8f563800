-- The bytes of an image, and the memory that has its bits.
use Rattle.std.specs.Prelude.{◌≡◌, ℕ, ◌+◌, ◌*◌, ◌/◌, ◌%◌, ◌^◌, ◌<◌, ◌≤◌, All, ℤ, List, [], length, map, get_or, replicate, refl}
use Rattle.actor_steps.specs.Imports.{sym, ap, ◌∙◌, subst, ⊎_elim, arith, bit_at, cases_lt, length-map, length-replicate, get_or-replicate, get_or_past, ext_get_or, length-map-range_with_len, get_or-map-range_with_len, bit_at-zero, Owner, Pad, owner_at, number, entry, bit_held, image, IsImage, number_same, number_lt, number_bits, bit_number, digit_lt, bit_of, bit_in, AreBytes, bit_of_byte, bytes_of, AreSized, AreLaid, blob_lengths}
use Rattle.std.proofs.Math.ListN.{get_or-map}
use Rattle.actor_steps.specs.Bytes.{IsMemory}
use Rattle.actor_steps.specs.HeldLaws.{digit_held, IsHeld}

-- blobs are whole bytes, and so is no blob
whole_blob : (layout : List (List Owner)) → All (λ blob. length blob % 8 ≡ 0) layout → (b : ℕ) → length (get_or layout b []) % 8 ≡ 0
whole_blob layout whole b = grind (arith, get_or_past, cases_lt)

-- a byte by its bits
whole_byte : (byte : ℕ) → byte < 256 → byte % 2 ^ 8 ≡ byte
whole_byte byte low = omega (arith, low)

same_bits : (one two : ℕ) → one < 256 → two < 256 → ((k : ℕ) → k < 8 → bit_at one k ≡ bit_at two k) → one ≡ two
same_bits one two low high same =
    sym (whole_byte one low) ∙ sym (number_bits one 8) ∙ number_same (bit_at one) (bit_at two) 8 same ∙ number_bits two 8 ∙ whole_byte two high

-- registers of zeros have the lengths of a layout
pub zeros-sized : (layout : List (List Owner)) → All (λ blob. length blob % 8 ≡ 0) layout → AreSized layout (map (λ bytes. replicate bytes 0) (blob_lengths layout))
zeros-sized layout whole =
    let zeros : ℕ → List ℕ = λ bytes. replicate bytes 0 in
    let bytes : List Owner → ℕ = λ blob. length blob / 8 in
    record {
      count = length-map (blob_lengths layout) zeros ∙ length-map layout bytes;
      lengths = λ b inside.
          let whole_here = whole_blob layout whole b in
          let there : length (get_or (map zeros (blob_lengths layout)) b []) ≡ length (get_or layout b []) / 8 =
          ap (length {A = ℕ}) (get_or-map zeros (blob_lengths layout) b 0) ∙ length-replicate (get_or (blob_lengths layout) b 0) 0 ∙ get_or-map bytes layout b [] in
          omega arith;
    }

zero_at : (n i : ℕ) → get_or {A = ℕ} (replicate n 0) i 0 ≡ 0
zero_at n i = grind (arith, get_or-replicate, get_or_past, length-replicate, cases_lt)

-- and 0 in its padding, as everywhere
pub zeros-laid : (layout : List (List Owner)) → All (λ blob. length blob % 8 ≡ 0) layout → AreLaid layout (map (λ bytes. replicate bytes 0) (blob_lengths layout))
zeros-laid layout whole = record {
  sized = zeros-sized layout whole;
  padded = record {
    padding = λ b p pad.
        ap (λ (w : List ℕ). bit_of w p) (get_or-map (λ bytes. replicate bytes 0) (blob_lengths layout) b 0)
        ∙ ap (λ (w : ℕ). bit_at w (p % 8)) (zero_at (get_or (blob_lengths layout) b 0) (p / 8)) ∙ bit_at-zero (p % 8);
  };
}

module _ (layout : List (List Owner)) (whole : All (λ blob. length blob % 8 ≡ 0) layout) (rows : List (List ℤ)) where
  bits : ℕ → List ℕ
  bits b = get_or (image layout rows) b []

  bits-length : (b : ℕ) → length (bits b) ≡ length (get_or layout b [])
  unfolding bits
  bits-length b = ap (length {A = ℕ}) (get_or-map (map (bit_held rows)) layout b []) ∙ length-map (get_or layout b []) (bit_held rows)

  bits-at : (b p : ℕ) → get_or (bits b) p 0 ≡ bit_held rows (owner_at layout b p)
  unfolding bits
  bits-at b p = ap (λ (w : List ℕ). get_or w p 0) (get_or-map (map (bit_held rows)) layout b []) ∙ get_or-map (bit_held rows) (get_or layout b []) p Pad

  held_lt : (owner : Owner) → bit_held rows owner < 2
  held_lt owner = grind (arith, digit_lt)

  bits-lt : (b p : ℕ) → get_or (bits b) p 0 < 2
  bits-lt b p = subst (λ (w : ℕ). w < 2) (sym (bits-at b p)) (held_lt (owner_at layout b p))

  bytes : ℕ → List ℕ
  bytes b = bytes_of (bits b)

  whole_image : List (List ℕ)
  whole_image = map bytes_of (image layout rows)

  memory-at : (b : ℕ) → get_or whole_image b [] ≡ bytes b
  unfolding bits bytes whole_image
  memory-at b = get_or-map bytes_of (image layout rows) b []

  bytes-length : (b : ℕ) → 8 * length (bytes b) ≡ length (get_or layout b [])
  unfolding bytes
  bytes-length b = grind (arith, whole_blob, length-map-range_with_len, bits-length)

  byte-is : (b i : ℕ) → i < length (bytes b) → get_or (bytes b) i 0 ≡ number (λ k. get_or (bits b) (8 * i + k) 0) 8
  unfolding bytes
  byte-is b i inside = grind (arith, length-map-range_with_len, get_or-map-range_with_len)

  bytes-are : (b : ℕ) → AreBytes (bytes b)
  bytes-are b i = grind (arith, byte-is, number_lt, bits-lt, get_or_past, cases_lt)

  bytes-bit : (b p : ℕ) → bit_of (bytes b) p ≡ bit_held rows (owner_at layout b p)
  bytes-bit b p =
      ⊎_elim (λ (inside : p / 8 < length (bytes b)).
      let back : 8 * (p / 8) + p % 8 ≡ p = omega arith in
      ap (λ (w : ℕ). bit_at w (p % 8)) (byte-is b (p / 8) inside)
      ∙ bit_number (λ k. get_or (bits b) (8 * (p / 8) + k) 0) 8 (p % 8) (λ k l. bits-lt b (8 * (p / 8) + k)) (omega arith)
      ∙ ap (λ (w : ℕ). get_or (bits b) w 0) back ∙ bits-at b p)
      (λ (outside : length (bytes b) ≤ p / 8). grind (arith, bytes-length, bit_at, get_or_past, bit_at-zero))
      (cases_lt (p / 8) (length (bytes b)))

  -- the bytes of an image are memory of the layout, and have its bits
  pub image-memory : IsMemory layout (map bytes_of (image layout rows))
  unfolding whole_image
  image-memory = grind (arith, length-map, memory-at, bytes-length, bytes-are)

  pub image-bits : IsImage layout rows (bit_in (map bytes_of (image layout rows)))
  unfolding whole_image
  image-bits b p = ap (λ (w : List ℕ). bit_of w p) (memory-at b) ∙ bytes-bit b p

  pub image-laid : AreLaid layout (map bytes_of (image layout rows))
  image-laid = record { sized = image-memory.sized; padded = record { padding = λ b p pad. image-bits b p ∙ ap (bit_held rows) pad } }

  -- memory with these bits has these bytes
  pub memory-is : (other : List (List ℕ)) → IsMemory layout other → IsImage layout rows (bit_in other) → other ≡ map bytes_of (image layout rows)
  unfolding whole_image
  memory-is other is same =
      ext_get_or [] other (map bytes_of (image layout rows)) (is.sized.count ∙ sym image-memory.sized.count)
      (λ b inside.
      let blob = get_or other b [] in
      let blob_in : b < length layout = omega (arith, inside, is.sized.count) in
      ext_get_or 0 blob (bytes b) (omega (arith, is.sized.lengths b blob_in, bytes-length b))
      (λ i low. same_bits (get_or blob i 0) (get_or (bytes b) i 0) (is.bytes b i) (bytes-are b i)
      (λ k l.
      let place : 8 * i + k ≡ 8 * i + k = refl in
      sym (bit_of_byte blob (8 * i + k) i k place l) ∙ same b (8 * i + k) ∙ sym (bytes-bit b (8 * i + k)) ∙ bit_of_byte (bytes b) (8 * i + k) i k place l))
      ∙ sym (memory-at b))

-- the image of a table holds its entries
held_entry : (rows : List (List ℤ)) (owner : Owner) → bit_held rows owner ≡ digit_held (entry rows) owner
held_entry rows owner = grind arith

pub image-held : (layout : List (List Owner)) (rows : List (List ℤ)) (memory : List (List ℕ)) → IsImage layout rows (bit_in memory) → IsHeld layout (entry rows) memory
image-held layout rows memory is b p = is b p ∙ held_entry rows (owner_at layout b p)
