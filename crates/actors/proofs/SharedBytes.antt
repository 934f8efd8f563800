-- The first shared byte of a layout, blob after blob.
use Rattle.actors.proofs.Imports.{◌≡◌, ℕ, ◌+◌, ◌-◌, ◌*◌, ◌/◌, ◌<◌, Bool, List, [], ◌∷◌, length, map, get_or, take, drop, Option, Some, None, refl, ap, option_map, flat_map, range_with_len, fun_ext, length-map, drop-map, take-map, Owner, Pad, Bit, RunOwner, run_owner, Place, bytes_in, owners_of_byte, is_shared, first_of_all, owner_shown, shown_in_byte, arith}
use Rattle.actors.proofs.Firsts.{first-map, first-front, first-back, range_at}

-- the owners of bits, as the code has them, are told apart as they are
shown_back : (owners : List Owner) → map owner_shown (map run_owner owners) ≡ owners
shown_back [] = refl
shown_back (Pad ∷ owners) = ap (λ (os : List Owner). Pad ∷ os) (shown_back owners)
shown_back (Bit row leaf bit ∷ owners) = ap (λ (os : List Owner). Bit row leaf bit ∷ os) (shown_back owners)

-- and so are those of a byte
byte_back : (owners : List Owner) (byte : ℕ) → shown_in_byte (map run_owner owners) byte ≡ take 8 (drop (8 * byte) owners)
byte_back owners byte = grind (arith, take-map, drop-map, shown_back)

module _ (layout : List (List Owner)) (actor : ℕ → ℕ) where
  -- whether a byte is shared
  abbrev pub shares : Place → Bool
  shares place = is_shared actor (owners_of_byte layout place)

  -- the first of the bytes of the blobs from one on
  abbrev pub first_from : ℕ → Option Place
  first_from blob = first_of_all shares (flat_map (bytes_in layout) (range_with_len blob (length layout - blob)))

  -- the first of a blob is what the code finds
  pub blob_first : (blob : ℕ) (owners : List RunOwner) (result : Option ℕ) → owners ≡ map run_owner (get_or layout blob [])
      → result ≡ first_of_all (λ byte. is_shared actor (shown_in_byte owners byte)) (range_with_len 0 (length owners / 8))
      → first_of_all shares (bytes_in layout blob) ≡ option_map (λ byte. record { blob = blob; byte = byte }) result
  blob_first blob owners result same found = grind (arith, length-map, fun_ext, byte_back, first-map, range_with_len, option_map)

  -- where it has none, the first is that of the blobs behind it
  pub blob_later : (blob : ℕ) → blob < length layout → first_of_all shares (bytes_in layout blob) ≡ None → first_from blob ≡ first_from (blob + 1)
  blob_later blob low none = grind (arith, flat_map, range_at, first-back, range_with_len)

  -- where it has one, this is the first
  pub blob_here : (blob : ℕ) (place : Place) → blob < length layout → first_of_all shares (bytes_in layout blob) ≡ Some place → first_from blob ≡ Some place
  blob_here blob place low here = grind (arith, flat_map, range_at, first-front, range_with_len)
