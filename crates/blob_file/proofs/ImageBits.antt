-- The bytes of bits, and the bits of the bytes of an image.
use Rattle.blob_file.proofs.Imports.{◌≡◌, ℕ, ◌%◌, ◌<◌, ◌≤◌, ℤ, List, [], length, get_or, map, All, sym, ap, ◌∙◌, ⊎_elim, arith, bit_at, cases_lt, length-map, get_or-map, get_or_past, get_or-map-range_with_len, Owner, Pad, owner_at, bit_held, image, IsImage, bit_number, digit_lt, bit_of, bits_of, bit_in, AreBytes, bytes_of, length-bytes_of, bytes_of_bits, Table, owners_of, blob_bits_of, blobs_of}

-- a blob of a table, by its bits
pub blob_saved : (table : Table) (b : ℕ) (bytes : List ℕ) → b < length (owners_of table) → AreBytes bytes → bits_of bytes ≡ blob_bits_of table b → bytes ≡ get_or (blobs_of table) b []
blob_saved table b bytes inside are is = grind (arith, length-map, bytes_of_bits, get_or-map)

pub blob_count : (table : Table) → length (blobs_of table) ≡ length (owners_of table)
blob_count table = length-map (image (owners_of table) table.rows) bytes_of ∙ length-map (owners_of table) (map (bit_held table.rows))

-- ---- the bits of the bytes of an image

held_lt : (rows : List (List ℤ)) (owner : Owner) → bit_held rows owner < 2
held_lt rows owner = grind (arith, digit_lt)

-- a bit of bits that are whole bytes
bit_back : (bits : List ℕ) (place : ℕ) → length bits % 8 ≡ 0 → ((k : ℕ) → get_or bits k 0 < 2) → bit_of (bytes_of bits) place ≡ get_or bits place 0
bit_back bits place whole small = grind (arith, bit_at, get_or-map-range_with_len, bit_number, length-bytes_of, get_or_past, cases_lt)

module _ (layout : List (List Owner)) (rows : List (List ℤ)) (whole : All (λ (blob : List Owner). length blob % 8 ≡ 0) layout) where
  at_blob : (b place : ℕ) → b < length layout → bit_in (map bytes_of (image layout rows)) b place ≡ bit_held rows (owner_at layout b place)
  at_blob b place inside =
      let owners = get_or layout b [] in
      let bits = map (bit_held rows) owners in
      let there : b < length (image layout rows) = omega (arith, inside, length-map layout (map (bit_held rows))) in
      let blob : get_or (map bytes_of (image layout rows)) b [] ≡ bytes_of bits =
      get_or-map bytes_of (image layout rows) b [] [] there ∙ ap bytes_of (get_or-map (map (bit_held rows)) layout b [] [] inside) in
      let eights : length bits % 8 ≡ 0 = ap (λ (n : ℕ). n % 8) (length-map owners (bit_held rows)) ∙ whole b [] inside in
      let held : (k : ℕ) → get_or bits k 0 ≡ bit_held rows (get_or owners k Pad) = λ k. each owners k in
      let small : (k : ℕ) → get_or bits k 0 < 2 = λ k. omega (arith, held k, held_lt rows (get_or owners k Pad)) in
      ap (λ (bytes : List ℕ). bit_of bytes place) blob ∙ bit_back bits place eights small ∙ held place
    where
      each : (owners : List Owner) (k : ℕ) → get_or (map (bit_held rows) owners) k 0 ≡ bit_held rows (get_or owners k Pad)
      each owners k =
          ⊎_elim (λ (l : k < length owners). get_or-map (bit_held rows) owners k Pad 0 l)
          (λ (past : length owners ≤ k).
          get_or_past (map (bit_held rows) owners) k 0 (omega (arith, past, length-map owners (bit_held rows)))
          ∙ ap (bit_held rows) (sym (get_or_past owners k Pad past)))
          (cases_lt k (length owners))

  past_blobs : (b place : ℕ) → length layout ≤ b → bit_in (map bytes_of (image layout rows)) b place ≡ bit_held rows (owner_at layout b place)
  past_blobs b place past = grind (arith, length-map, get_or_past, bit_number)

  -- they are the image
  pub bytes_image : IsImage layout rows (bit_in (map bytes_of (image layout rows)))
  bytes_image b place = grind (arith, at_blob, past_blobs, cases_lt)
