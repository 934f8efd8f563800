-- One cell in one slot, as a mapping answers for it: its hold and its pieces.
use Rattle.std.specs.Prelude.{◌≡◌, ℕ, ◌*◌, ◌/◌, ◌%◌, ◌^◌, false, ◌<◌, ◌≤◌, ℤ, List, [], length, get_or, map, All, Some, slice_get, slice_index}
use Rattle.piece_bits.specs.Imports.{sym, ap, ◌∙◌, subst, arith, bit_at, length-map, get_or-map, get_or_from_slice_get, bit_at-lt, IsIn, Piece, Hold, Owner, Pad, owner_at, number, digit, decoded, entry, width_at, IsLaidOut, IsLocated, number_lt, bit_number, digit_lt, bit_in}
use Rattle.piece_bits.specs.Inner.Spots.{spots_of, bit_at_spot, IsWithin, AreApart, IsOutside}
use Rattle.piece_bits.specs.Tables.{with_entry, table_in, hold_at, AreSized, AreLaid}
use Rattle.piece_bits.specs.LocatedLaws.{spot_count, spots_apart, pieces_within}
use Rattle.piece_bits.specs.EntriesLaws.{read_is, set_is, padding_stands}

-- a bit is 0 or 1
pub bit_in_lt : (blobs : List (List ℕ)) (b p : ℕ) → bit_in blobs b p < 2
bit_in_lt blobs b p = bit_at-lt (get_or (get_or blobs b []) (p / 8) 0) (p % 8)

-- a hold has 1 to 64 bits
pub hold_widths : (layout : List (List Owner)) (slots : ℕ) (holds : List Hold) → IsLaidOut layout slots (map (λ (h : Hold). h.width) holds) →
    (cell : ℕ) (hold : Hold) → cell < length holds → slice_get holds cell ≡ Some hold → (1 ≤ hold.width) × (hold.width ≤ 64)
hold_widths layout slots holds laid cell hold cell_in is =
    let d : Hold = record { signed = false; width = 0 } in
    let width_in : cell < length (map (λ (h : Hold). h.width) holds) = omega (arith, length-map holds (λ (h : Hold). h.width)) in
    let width : get_or (map (λ (h : Hold). h.width) holds) cell 0 ≡ hold.width =
    width_at holds cell d cell_in ∙ ap (λ (h : Hold). h.width) (get_or_from_slice_get holds cell hold d is) in
    (omega (arith, laid.wide cell 0 width_in), omega (arith, laid.narrow cell 0 width_in))

-- what a mapping with the laws answers for a cell in a slot
pub record IsCell (layout : List (List Owner)) (slots : ℕ) (holds : List Hold) (slot cell : ℕ) (hold : Hold) (pieces : List Piece) : Type 0 where
  pub laid : IsLaidOut layout slots (map (λ h. h.width) holds)
  pub slot_in : slot < slots
  pub cell_in : cell < length holds
  pub is : slice_get holds cell ≡ Some hold
  pub located : IsLocated layout slot cell (slice_index (map (λ h. h.width) holds) cell) pieces

module _ {layout : List (List Owner)} {slots : ℕ} {holds : List Hold} {slot cell : ℕ} {hold : Hold} {pieces : List Piece}
    (at : IsCell layout slots holds slot cell hold pieces) where
  pub hold_is : hold_at holds cell ≡ hold
  hold_is = get_or_from_slice_get holds cell hold (record { signed = false; width = 0 }) at.is

  same_width : slice_index (map (λ (h : Hold). h.width) holds) cell ≡ hold.width
  same_width = width_at holds cell (record { signed = false; width = 0 }) at.cell_in ∙ ap (λ (h : Hold). h.width) hold_is

  here : IsLocated layout slot cell hold.width pieces
  here = subst (λ (w : ℕ). IsLocated layout slot cell w pieces) same_width at.located

  width_in : cell < length (map (λ (h : Hold). h.width) holds)
  width_in = omega (arith, at.cell_in, length-map holds (λ (h : Hold). h.width))

  pub some_bits : 1 ≤ hold.width
  some_bits = omega (arith, at.laid.wide cell 0 width_in, same_width)

  pub few_bits : hold.width ≤ 64
  few_bits = omega (arith, at.laid.narrow cell 0 width_in, same_width)

  -- as many places as the hold has bits
  pub bit_count : length (spots_of pieces) ≡ hold.width
  bit_count = spot_count layout slot cell hold.width pieces here

  pub apart : AreApart (spots_of pieces)
  apart = spots_apart layout slot cell hold.width pieces here

  pub within : (blobs : List (List ℕ)) → AreSized layout blobs → All (IsWithin blobs) pieces
  within = pieces_within layout slot cell hold.width pieces here

  -- what is read fits the hold, and says the entry
  pub read_small : (blobs : List (List ℕ)) (value : ℕ) → value ≡ number (bit_at_spot (bit_in blobs) (spots_of pieces)) (length (spots_of pieces)) → value < 2 ^ hold.width
  read_small blobs value read = grind (arith, number_lt, bit_in_lt, bit_count)

  pub read_entry_is : (blobs : List (List ℕ)) (value : ℕ) → value ≡ number (bit_at_spot (bit_in blobs) (spots_of pieces)) (length (spots_of pieces)) →
      decoded hold.signed hold.width value ≡ entry (table_in layout slots holds blobs) slot cell
  read_entry_is blobs value read =
      let bits = bit_in blobs in
      let spots = spots_of pieces in
      let same : value ≡ number (bit_at_spot bits spots) hold.width = read ∙ ap (number (bit_at_spot bits spots)) bit_count in
      let there : IsLocated layout slot cell (hold_at holds cell).width pieces = subst (λ (h : Hold). IsLocated layout slot cell h.width pieces) (sym hold_is) here in
      grind (arith, hold_is, read_is)

  -- what is written
  module _ (old new : List (List ℕ)) (value : ℤ) (code : ℕ) (code_is : code ≡ number (digit value) hold.width) (held : IsIn hold.signed hold.width value)
      (inside : (k : ℕ) → k < length (spots_of pieces) → bit_at_spot (bit_in new) (spots_of pieces) k ≡ bit_at code k)
      (outside : (b p : ℕ) → IsOutside (spots_of pieces) b p → bit_in new b p ≡ bit_in old b p) where
    there' : IsLocated layout slot cell (hold_at holds cell).width pieces
    there' = subst (λ (h : Hold). IsLocated layout slot cell h.width pieces) (sym hold_is) here

    digits : (k : ℕ) → k < hold.width → bit_at_spot (bit_in new) (spots_of pieces) k ≡ digit value k
    digits k l = grind (arith, bit_count, bit_at, bit_number, digit_lt)

    digits_at : (k : ℕ) → k < (hold_at holds cell).width → bit_at_spot (bit_in new) (spots_of pieces) k ≡ digit value k
    digits_at k l = digits k (subst (λ (h : Hold). k < h.width) hold_is l)

    pub written_table : table_in layout slots holds new ≡ with_entry (table_in layout slots holds old) slot cell value
    written_table =
        set_is layout slots holds at.laid (bit_in old) (bit_in new) slot cell (record { signed = false; width = 0 }) pieces value at.slot_in at.cell_in there' digits_at outside
        (subst (λ (h : Hold). IsIn h.signed h.width value) (sym hold_is) held)

    pub written_padding : (b p : ℕ) → owner_at layout b p ≡ Pad → bit_in new b p ≡ bit_in old b p
    written_padding =
        padding_stands layout slots holds at.laid (bit_in old) (bit_in new) slot cell (record { signed = false; width = 0 }) pieces value at.slot_in at.cell_in there' digits_at outside

-- blobs of the same lengths have those of the layout as before
pub still_sized : (layout : List (List Owner)) (old new : List (List ℕ)) → AreSized layout old → map (length {A = ℕ}) new ≡ map (length {A = ℕ}) old → AreSized layout new
still_sized layout old new sized same =
    let count : length new ≡ length old =
    sym (length-map new (length {A = ℕ})) ∙ ap (length {A = ℕ}) same ∙ length-map old (length {A = ℕ}) in
    record {
      count = count ∙ sized.count;
      lengths = λ b l.
          (let in_old : b < length old = omega (arith, sized.count) in
          let in_new : b < length new = omega arith in
          let long : length (get_or new b []) ≡ length (get_or old b []) =
          sym (get_or-map (length {A = ℕ}) new b [] 0 in_new) ∙ ap (λ (w : List ℕ). get_or w b 0) same ∙ get_or-map (length {A = ℕ}) old b [] 0 in_old in
          ap (λ (w : ℕ). 8 * w) long ∙ sized.lengths b l);
    }

-- where the padding stands too, they are laid out as before
pub still_laid : (layout : List (List Owner)) (old new : List (List ℕ)) → AreLaid layout old → map (length {A = ℕ}) new ≡ map (length {A = ℕ}) old →
    ((b p : ℕ) → owner_at layout b p ≡ Pad → bit_in new b p ≡ bit_in old b p) → AreLaid layout new
still_laid layout old new laid same stands =
    record {
      sized = still_sized layout old new laid.sized same;
      padded = record { padding = λ b p pad. stands b p pad ∙ laid.padded.padding b p pad };
    }
