-- What bits under a layout say: the entries that are read off them, what a write changes, and that they are the image of the table read off them.
use Rattle.std.specs.Prelude.{◌≡◌, ℕ, zero, suc, ◌+◌, ◌*◌, ◌^◌, ◌<◌, ◌≤◌, Bool, false, ℤ, pos, List, [], length, get_or, map, refl}
use Rattle.piece_bits.specs.Imports.{sym, ap, ◌∙◌, subst, arith, range_with_len, length-map, get_or-map, ext_get_or, length-map-range_with_len, get_or-map-range_with_len, pow_pos, IsIn, Piece, Hold, Owner, Pad, Bit, owner_at, number, digit, decoded, entry, bit_held, image, IsImage, bit_owned, reading, table_of, width_at, IsBitOf, IsLaidOut, IsLocated, number_same, number_lt, bit_number, decoded_low, decoded_digits, bit_digits, decoded_in, owned_is, found_owned, bit_of, bits_of, bit_in}
use Rattle.piece_bits.specs.Inner.Spots.{spots_of, spot_at, bit_at_spot, IsOutside}
use Rattle.piece_bits.specs.Tables.{with_entry, zeros, signs_and_widths}
use Rattle.piece_bits.specs.LocatedLaws.{spot_owner, spot_count, spot_owned}
use Rattle.piece_bits.specs.TableLaws.{table_shape, entry_is, is_with_entry, tables_same, zeros_shape, zeros_entry}

-- no bits, no number
number_none : (f : ℕ → ℕ) (n : ℕ) → ((k : ℕ) → k < n → f k ≡ 0) → number f n ≡ 0
number_none f zero none = refl
number_none f (suc n) none =
    let first : f 0 ≡ 0 = none 0 (omega arith) in
    let rest : number (λ k. f (k + 1)) n ≡ 0 = number_none (λ k. f (k + 1)) n (λ k l. none (k + 1) (omega arith)) in
    omega arith

decoded_none : (signed : Bool) (width : ℕ) → decoded signed width 0 ≡ pos 0
decoded_none signed width = grind (arith, decoded_low, pow_pos)

-- the owner of a place that is given is not the bit of another place
outside_from_owner : (layout : List (List Owner)) (row cell width : ℕ) (pieces : List Piece) → IsLocated layout row cell width pieces → (b p : ℕ)
    → ((k : ℕ) → owner_at layout b p ≡ Bit row cell k → ⊥) → IsOutside (spots_of pieces) b p
outside_from_owner layout row cell width pieces located b p none k l same =
    let inside : k < width = omega (arith, spot_count layout row cell width pieces located) in
    none k (sym (ap (spot_owner layout) same) ∙ spot_owned layout row cell width pieces located k inside)

module _ (layout : List (List Owner)) (slots : ℕ) (holds : List Hold) (laid : IsLaidOut layout slots (map (λ (h : Hold). h.width) holds)) where
  -- a stored bit
  stored : (row cell k : ℕ) (d : Hold) → row < slots → cell < length holds → k < (get_or holds cell d).width → IsBitOf slots (map (λ (h : Hold). h.width) holds) row cell k
  stored row cell k d l m n = record {
    slot_in = l;
    cell_in = omega (arith, length-map holds (λ (h : Hold). h.width));
    bit_in = subst (λ (w : ℕ). k < w) (sym (width_at holds cell d m)) n;
  }

  width_range : (cell : ℕ) (d : Hold) → cell < length holds → (1 ≤ (get_or holds cell d).width) × ((get_or holds cell d).width ≤ 64)
  width_range cell d m =
      let inside : cell < length (map (λ (h : Hold). h.width) holds) = omega (arith, length-map holds (λ (h : Hold). h.width)) in
      (omega (arith, laid.wide cell 0 inside, width_at holds cell d m), omega (arith, laid.narrow cell 0 inside, width_at holds cell d m))

  -- what the places of a cell say is the reading of the cell
  pub reading_located : (bits : ℕ → ℕ → ℕ) (row cell width : ℕ) (signed : Bool) (pieces : List Piece) → IsLocated layout row cell width pieces →
      decoded signed width (number (bit_at_spot bits (spots_of pieces)) width) ≡ reading layout bits row cell signed width
  reading_located bits row cell width signed pieces located =
      ap (decoded signed width)
      (number_same (bit_at_spot bits (spots_of pieces)) (λ k. bit_owned (Bit row cell k) layout bits) width
      (λ k l.
      let spot = spot_at (spots_of pieces) k in
      sym (owned_is layout slots (map (λ (h : Hold). h.width) holds) bits spot.0 spot.1 row cell k laid (spot_owned layout row cell width pieces located k l))))

  -- what a cell's places say is its entry
  pub read_is : (bits : ℕ → ℕ → ℕ) (row cell : ℕ) (d : Hold) (pieces : List Piece) → row < slots → cell < length holds →
      IsLocated layout row cell (get_or holds cell d).width pieces →
      decoded (get_or holds cell d).signed (get_or holds cell d).width (number (bit_at_spot bits (spots_of pieces)) (get_or holds cell d).width)
      ≡ entry (table_of layout slots (signs_and_widths holds) bits) row cell
  read_is bits row cell d pieces l m located =
      reading_located bits row cell (get_or holds cell d).width (get_or holds cell d).signed pieces located ∙ sym (entry_is layout slots holds bits row cell d l m)

  -- an entry lies in the range of its hold
  pub entry_in : (bits : ℕ → ℕ → ℕ) (row cell : ℕ) (d : Hold) → ((b p : ℕ) → bits b p < 2) → row < slots → cell < length holds →
      IsIn (get_or holds cell d).signed (get_or holds cell d).width (entry (table_of layout slots (signs_and_widths holds) bits) row cell)
  entry_in bits row cell d small l m =
      let hold = get_or holds cell d in
      let bit : ℕ → ℕ = λ k. bit_owned (Bit row cell k) layout bits in
      let below : number bit hold.width < 2 ^ hold.width =
      number_lt bit hold.width (λ k n.
      let place = laid.there row cell k (stored row cell k d l m n) in
      subst (λ (w : ℕ). w < 2) (sym (owned_is layout slots (map (λ (h : Hold). h.width) holds) bits place.0 place.1 row cell k laid place.2)) (small place.0 place.1)) in
      subst (λ (w : ℤ). IsIn hold.signed hold.width w) (sym (entry_is layout slots holds bits row cell d l m))
      (decoded_in hold.signed hold.width (number bit hold.width) (width_range cell d m).0 below)

  -- bits whose padding is 0 are the image of the table that is read off them
  module _ (bits : ℕ → ℕ → ℕ) (small : (b p : ℕ) → bits b p < 2) (padding : (b p : ℕ) → owner_at layout b p ≡ Pad → bits b p ≡ 0) where
    held_at : (b p : ℕ) (owner : Owner) → owner_at layout b p ≡ owner → bits b p ≡ bit_held (table_of layout slots (signs_and_widths holds) bits) owner
    held_at b p Pad e = padding b p e
    held_at b p (Bit s c k) e =
        let d : Hold = record { signed = false; width = 0 } in
        let is : IsBitOf slots (map (λ (h : Hold). h.width) holds) s c k = laid.owned b p s c k e in
        let cell_in : c < length holds = omega (arith, is.cell_in, length-map holds (λ (h : Hold). h.width)) in
        let hold = get_or holds c d in
        let bit : ℕ → ℕ = λ j. bit_owned (Bit s c j) layout bits in
        let bit_small : (j : ℕ) → j < hold.width → bit j < 2 = λ j n.
        (let place = laid.there s c j (stored s c j d is.slot_in cell_in n) in
        subst (λ (w : ℕ). w < 2) (sym (owned_is layout slots (map (λ (h : Hold). h.width) holds) bits place.0 place.1 s c j laid place.2)) (small place.0 place.1)) in
        let inside : k < hold.width = subst (λ (w : ℕ). k < w) (width_at holds c d cell_in) is.bit_in in
        sym (ap (λ (w : ℤ). digit w k) (entry_is layout slots holds bits s c d is.slot_in cell_in)
        ∙ bit_digits hold.signed hold.width (number bit hold.width) k (number_lt bit hold.width bit_small) inside
        ∙ bit_number bit hold.width k bit_small inside
        ∙ owned_is layout slots (map (λ (h : Hold). h.width) holds) bits b p s c k laid e)

    pub image_from_padding : IsImage layout (table_of layout slots (signs_and_widths holds) bits) bits
    image_from_padding b p = held_at b p (owner_at layout b p) refl

  -- a cell's bits are written, and all others stand
  module _ (old new : ℕ → ℕ → ℕ) (row cell : ℕ) (d : Hold) (pieces : List Piece) (value : ℤ) (row_in : row < slots) (cell_in : cell < length holds)
      (located : IsLocated layout row cell (get_or holds cell d).width pieces)
      (inside : (k : ℕ) → k < (get_or holds cell d).width → bit_at_spot new (spots_of pieces) k ≡ digit value k)
      (outside : (b p : ℕ) → IsOutside (spots_of pieces) b p → new b p ≡ old b p) where
    -- padding stands
    pub padding_stands : (b p : ℕ) → owner_at layout b p ≡ Pad → new b p ≡ old b p
    padding_stands b p pad =
        outside b p (outside_from_owner layout row cell (get_or holds cell d).width pieces located b p (λ k e. (cc)))

    bit_stands : (s c k : ℕ) (e : Hold) → s < slots → c < length holds → k < (get_or holds c e).width → ((s ≡ row) × (c ≡ cell) → ⊥) →
        bit_owned (Bit s c k) layout new ≡ bit_owned (Bit s c k) layout old
    bit_stands s c k e l m n other =
        let widths = map (λ (h : Hold). h.width) holds in
        let place = laid.there s c k (stored s c k e l m n) in
        owned_is layout slots widths new place.0 place.1 s c k laid place.2
        ∙ outside place.0 place.1 (outside_from_owner layout row cell (get_or holds cell d).width pieces located place.0 place.1 (grind arith))
        ∙ sym (owned_is layout slots widths old place.0 place.1 s c k laid place.2)

    entry_stands : (s c : ℕ) → s < slots → c < length holds → ((s ≡ row) × (c ≡ cell) → ⊥) →
        entry (table_of layout slots (signs_and_widths holds) new) s c ≡ entry (table_of layout slots (signs_and_widths holds) old) s c
    entry_stands s c l m other =
        let hold = get_or holds c d in
        entry_is layout slots holds new s c d l m
        ∙ ap (decoded hold.signed hold.width)
        (number_same (λ k. bit_owned (Bit s c k) layout new) (λ k. bit_owned (Bit s c k) layout old) hold.width (λ k n. bit_stands s c k d l m n other))
        ∙ sym (entry_is layout slots holds old s c d l m)

    -- exactly this entry changes
    pub set_is : IsIn (get_or holds cell d).signed (get_or holds cell d).width value →
        table_of layout slots (signs_and_widths holds) new ≡ with_entry (table_of layout slots (signs_and_widths holds) old) row cell value
    set_is fits =
        let hold = get_or holds cell d in
        let written : entry (table_of layout slots (signs_and_widths holds) new) row cell ≡ value =
        sym (read_is new row cell d pieces row_in cell_in located)
        ∙ ap (decoded hold.signed hold.width) (number_same (bit_at_spot new (spots_of pieces)) (digit value) hold.width inside)
        ∙ decoded_digits hold.signed hold.width value (width_range cell d cell_in).0 fits in
        is_with_entry slots (length holds) (table_of layout slots (signs_and_widths holds) old) (table_shape layout slots holds old) row cell value row_in cell_in
        (table_of layout slots (signs_and_widths holds) new) (table_shape layout slots holds new) written (λ r c l m none. entry_stands r c l m none)

-- bits that are all 0 say zeros
pub zeros_read : (layout : List (List Owner)) (slots : ℕ) (holds : List Hold) (bits : ℕ → ℕ → ℕ) → ((b p : ℕ) → bits b p ≡ 0) →
    table_of layout slots (signs_and_widths holds) bits ≡ zeros slots (length holds)
zeros_read layout slots holds bits none =
    let d : Hold = record { signed = false; width = 0 } in
    let nothing : (s c k : ℕ) → bit_owned (Bit s c k) layout bits ≡ 0 = grind (arith, found_owned) in
    tables_same slots (length holds) (table_of layout slots (signs_and_widths holds) bits) (zeros slots (length holds))
    (table_shape layout slots holds bits) (zeros_shape slots (length holds))
    (λ s c l m.
    let hold = get_or holds c d in
    entry_is layout slots holds bits s c d l m
    ∙ ap (decoded hold.signed hold.width) (number_none (λ k. bit_owned (Bit s c k) layout bits) hold.width (λ k n. nothing s c k))
    ∙ decoded_none hold.signed hold.width ∙ sym (zeros_entry slots (length holds) s c l m))

-- a blob of bits that are an image has the bits of the image's blob
pub blob_is : (layout : List (List Owner)) (table : List (List ℤ)) (blobs : List (List ℕ)) (b : ℕ) → b < length layout →
    8 * length (get_or blobs b []) ≡ length (get_or layout b []) → IsImage layout table (bit_in blobs) →
    bits_of (get_or blobs b []) ≡ get_or (image layout table) b []
blob_is layout table blobs b l long is =
    let bytes = get_or blobs b [] in
    let owners = get_or layout b [] in
    let held : get_or (map (map (bit_held table)) layout) b [] ≡ map (bit_held table) owners = get_or-map (map (bit_held table)) layout b [] [] l in
    let size : length (map (bit_of bytes) (range_with_len 0 (8 * length bytes))) ≡ 8 * length bytes = length-map-range_with_len (bit_of bytes) 0 (8 * length bytes) in
    let same : map (bit_of bytes) (range_with_len 0 (8 * length bytes)) ≡ map (bit_held table) owners =
    ext_get_or 0 (map (bit_of bytes) (range_with_len 0 (8 * length bytes))) (map (bit_held table) owners)
    (size ∙ long ∙ sym (length-map owners (bit_held table)))
    (λ p m.
    let inside : p < 8 * length bytes = omega arith in
    let in_owners : p < length owners = omega arith in
    get_or-map-range_with_len (bit_of bytes) 0 (8 * length bytes) p p 0 inside (omega arith)
    ∙ is b p ∙ sym (get_or-map (bit_held table) owners p Pad 0 in_owners)) in
    same ∙ sym held
