-- Copies of the blobs of a table.
use Rattle.actors.proofs.Imports.{◌≡◌, ℕ, ◌+◌, ◌*◌, ◌/◌, ◌<◌, ◌≤◌, List, [], ◌∷◌, ◌++◌, length, map, get_or, take, replicate, sym, ap, ◌∙◌, arith, length-map, get_or-map, take_more, take_all, Owner, bit_held, image, bits_of, AreBytes, bytes_of, bytes_of_bits, Table, owners_of, blob_bits_of, blob_lengths, memory_of, fresh_of}

module _ (table : Table) where
  pub blob_count : length (memory_of table) ≡ length (owners_of table)
  blob_count = length-map (image (owners_of table) table.rows) bytes_of ∙ length-map (owners_of table) (map (bit_held table.rows))

  -- a blob by its bits
  blob_is : (b : ℕ) (bytes : List ℕ) → b < length (owners_of table) → AreBytes bytes → bits_of bytes ≡ blob_bits_of table b → bytes ≡ get_or (memory_of table) b []
  blob_is b bytes inside are is = grind (arith, length-map, bytes_of_bits, get_or-map)

  -- one blob more is copied
  pub one_copied : (b : ℕ) (bytes : List ℕ) (blobs : List (List ℕ)) → b < length (owners_of table) → AreBytes bytes → bits_of bytes ≡ blob_bits_of table b
      → blobs ≡ take b (memory_of table) → blobs ++ bytes ∷ [] ≡ take (b + 1) (memory_of table)
  one_copied b bytes blobs inside are is so_far =
      ap (λ (w : List (List ℕ)). w ++ bytes ∷ []) so_far ∙ ap (λ (w : List ℕ). take b (memory_of table) ++ w ∷ []) (blob_is b bytes inside are is)
      ∙ sym (take_more (memory_of table) b [] (omega (arith, inside, blob_count)))

  pub all_copied : (b : ℕ) (blobs : List (List ℕ)) → length (owners_of table) ≤ b → blobs ≡ take b (memory_of table) → blobs ≡ memory_of table
  all_copied b blobs over so_far = so_far ∙ take_all b (memory_of table) (omega (arith, over, blob_count))

  zero_count : length (fresh_of table).loaded ≡ length (owners_of table)
  zero_count = length-map (blob_lengths (owners_of table)) (λ (bytes : ℕ). replicate bytes 0) ∙ length-map (owners_of table) (λ (blob : List Owner). length blob / 8)

  zero_is : (b bytes : ℕ) → b < length (owners_of table) → 8 * bytes ≡ length (get_or (owners_of table) b []) → replicate bytes 0 ≡ get_or (fresh_of table).loaded b []
  zero_is b bytes inside is =
      let at : get_or (blob_lengths (owners_of table)) b 0 ≡ length (get_or (owners_of table) b []) / 8 = get_or-map (λ (blob : List Owner). length blob / 8) (owners_of table) b [] 0 inside in
      let same : bytes ≡ get_or (blob_lengths (owners_of table)) b 0 = omega (arith, is, at) in
      let there : b < length (blob_lengths (owners_of table)) = omega (arith, inside, length-map (owners_of table) (λ (blob : List Owner). length blob / 8)) in
      ap (λ (n : ℕ). replicate n 0) same ∙ sym (get_or-map (λ (n : ℕ). replicate n 0) (blob_lengths (owners_of table)) b 0 [] there)

  -- the same of bytes that are 0
  pub one_fresh : (b bytes : ℕ) (blobs : List (List ℕ)) → b < length (owners_of table) → 8 * bytes ≡ length (get_or (owners_of table) b [])
      → blobs ≡ take b (fresh_of table).loaded → blobs ++ replicate bytes 0 ∷ [] ≡ take (b + 1) (fresh_of table).loaded
  one_fresh b bytes blobs inside is so_far =
      ap (λ (w : List (List ℕ)). w ++ replicate bytes 0 ∷ []) so_far ∙ ap (λ (w : List ℕ). take b (fresh_of table).loaded ++ w ∷ []) (zero_is b bytes inside is)
      ∙ sym (take_more (fresh_of table).loaded b [] (omega (arith, inside, zero_count)))

  pub all_fresh : (b : ℕ) (blobs : List (List ℕ)) → length (owners_of table) ≤ b → blobs ≡ take b (fresh_of table).loaded → blobs ≡ (fresh_of table).loaded
  all_fresh b blobs over so_far = so_far ∙ take_all b (fresh_of table).loaded (omega (arith, over, zero_count))
