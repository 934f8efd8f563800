-- A word by its pieces: where its bits stand, and what is read and written there.
use Rattle.std.specs.Prelude.{◌≡◌, ℕ, ℤ, zero, suc, ◌+◌, ◌*◌, ◌-◌, ◌<◌, ◌≤◌, Bool, List, [], length, map, get_or, set, All, refl}
use Rattle.piece_bits.specs.Imports.{sym, ap, ◌∙◌, subst, ⊎_elim, arith, bit_at, length-append, get_or-append_right, get_or-set_same, get_or-set_other, get_or-map, map-set, set-get_or, cases_lt, cases_eq, IsIn, Hold, Owner, number, digit, decoded, entry, number_same, bit_of, bit_in, turned_place}
use Rattle.piece_bits.specs.Inner.Spots.{spots_of, spot_at, bit_at_spot, IsWithin}
use Rattle.piece_bits.specs.SpotsOfLaws.{length-spots_in, next_piece, nowhere}
use Rattle.piece_bits.specs.OnePieceLaws.{one_count, one_at}
use Rattle.piece_bits.specs.CellsLaws.{IsCell, bit_count, within, read_entry_is, written_table, written_padding, still_laid}
use Rattle.piece_bits.specs.Tables.{AreSized, AreLaid, table_in, with_entry}
use Rattle.piece_bits.specs.WritesLaws.{AreWritten}
use Rattle.piece_bits.specs.Words.{turned_pieces, word_signed, word_width, word_bit, word_place, word_pieces, IsPlaceWord}
use Rattle.piece_bits.specs.declared.field.Field.{Field}
use Rattle.piece_bits.specs.declared.word.Word.{Word}
use Rattle.piece_bits.specs.declared.word.Word.TheVariants.{TurnedU16, TurnedU32, TurnedU64, TurnedI16, TurnedI32, TurnedI64, Field as FieldWord, Scattered}

-- bytes in reverse order have eight places each
turned_count : (blob bit n : ℕ) → length (spots_of (turned_pieces blob bit n)) ≡ 8 * n
turned_count blob bit zero = refl
turned_count blob bit (suc n) = grind (arith, length-append, length-spots_in, (turned_count blob bit n))

turned_spot : (blob bit n k : ℕ) → k < 8 * n → spot_at (spots_of (turned_pieces blob bit n)) k ≡ (blob, bit + turned_place (8 * n) k)
turned_spot blob bit zero k h = absurd (omega arith)
turned_spot blob bit (suc n) k h =
    ⊎_elim
    (λ (l : k < 8). grind (arith, next_piece))
    (λ (l : 8 ≤ k). grind (arith, get_or-append_right, length-spots_in, (turned_spot blob bit n (k - 8) (omega arith))))
    (cases_lt k 8)

-- each place among these bytes is that of a bit
turned_covers : (first n place : ℕ) → 8 * first ≤ place → place < 8 * first + 8 * n → (k : ℕ) × (k < 8 * n) × (8 * first + turned_place (8 * n) k ≡ place)
turned_covers first n place low high = (turned_place (8 * n) (place - 8 * first), omega arith, omega arith)

-- a word has as many places as bits
word_count : (word : Word) (field : Field) (blob start : ℕ) → IsPlaceWord word field → length (spots_of (word_pieces word field blob start)) ≡ word_width word field
word_count TurnedU16 field blob start form = turned_count blob (8 * start) 2
word_count TurnedI16 field blob start form = turned_count blob (8 * start) 2
word_count TurnedU32 field blob start form = turned_count blob (8 * start) 4
word_count TurnedI32 field blob start form = turned_count blob (8 * start) 4
word_count TurnedU64 field blob start form = turned_count blob (8 * start) 8
word_count TurnedI64 field blob start form = turned_count blob (8 * start) 8
word_count FieldWord field blob start form = one_count (record { blob = blob; bit = start; bits = field.width })
word_count Scattered field blob start form = absurd form
word_count word field blob start form = one_count (record { blob = blob; bit = 8 * start; bits = word_width word field })

-- and they are where its bits stand
word_spot : (word : Word) (field : Field) (blob start k : ℕ) → IsPlaceWord word field → k < word_width word field
    → spot_at (spots_of (word_pieces word field blob start)) k ≡ (blob, word_place word start k)
word_spot TurnedU16 field blob start k form h = turned_spot blob (8 * start) 2 k h
word_spot TurnedI16 field blob start k form h = turned_spot blob (8 * start) 2 k h
word_spot TurnedU32 field blob start k form h = turned_spot blob (8 * start) 4 k h
word_spot TurnedI32 field blob start k form h = turned_spot blob (8 * start) 4 k h
word_spot TurnedU64 field blob start k form h = turned_spot blob (8 * start) 8 k h
word_spot TurnedI64 field blob start k form h = turned_spot blob (8 * start) 8 k h
word_spot FieldWord field blob start k form h = one_at (record { blob = blob; bit = start; bits = field.width }) k h
word_spot Scattered field blob start k form h = absurd form
word_spot word field blob start k form h = one_at (record { blob = blob; bit = 8 * start; bits = word_width word field }) k h

-- each place from its first bit on, as many as it has bits, is that of a bit
word_covers : (word : Word) (field : Field) (start place : ℕ) → IsPlaceWord word field → word_bit word start ≤ place → place < word_bit word start + word_width word field
    → (k : ℕ) × (k < word_width word field) × (word_place word start k ≡ place)
word_covers TurnedU16 field start place form low high = turned_covers start 2 place low high
word_covers TurnedI16 field start place form low high = turned_covers start 2 place low high
word_covers TurnedU32 field start place form low high = turned_covers start 4 place low high
word_covers TurnedI32 field start place form low high = turned_covers start 4 place low high
word_covers TurnedU64 field start place form low high = turned_covers start 8 place low high
word_covers TurnedI64 field start place form low high = turned_covers start 8 place low high
word_covers FieldWord field start place form low high = (place - start, omega arith, omega arith)
word_covers Scattered field start place form low high = absurd form
word_covers word field start place form low high = (place - 8 * start, omega arith, omega arith)

-- where its pieces lie within blobs, so do its bits
word_within : (word : Word) (field : Field) (blobs : List (List ℕ)) (blob start : ℕ) → IsPlaceWord word field → All (IsWithin blobs) (word_pieces word field blob start)
    → (blob < length blobs) × (word_bit word start + word_width word field ≤ 8 * length (get_or blobs blob []))
word_within Scattered field blobs blob start form all = absurd form
word_within word field blobs blob start form all = let first = all 0 nowhere (omega arith) in (first.blob_in, omega (arith, first.bits_in))

module _ (word : Word) (field : Field) (blobs : List (List ℕ)) (blob start : ℕ) (form : IsPlaceWord word field) where
  abbrev spots : List (ℕ × ℕ)
  spots = spots_of (word_pieces word field blob start)

  -- its bits as a number, by its pieces
  by_pieces : (bytes : List ℕ) → bytes ≡ get_or blobs blob [] → number (λ k. bit_of bytes (word_place word start k)) (word_width word field)
      ≡ number (bit_at_spot (bit_in blobs) spots) (length spots)
  by_pieces bytes is = grind (arith, number_same, word_spot, word_count)

  -- its bits are written, and no others
  module _ (new : List ℕ) (value : ℕ) (blob_in : blob < length blobs)
      (inside : (k : ℕ) → k < word_width word field → bit_of new (word_place word start k) ≡ bit_at value k)
      (before : (k : ℕ) → k < word_bit word start → bit_of new k ≡ bit_of (get_or blobs blob []) k)
      (after : (k : ℕ) → word_bit word start + word_width word field ≤ k → bit_of new k ≡ bit_of (get_or blobs blob []) k)
      (len : length new ≡ length (get_or blobs blob [])) where
    here : (p : ℕ) → bit_in (set blobs blob new) blob p ≡ bit_of new p
    here p = ap (λ (w : List ℕ). bit_of w p) (get_or-set_same blobs blob new [] blob_in)

    untouched : (b p : ℕ) → ((k : ℕ) → k < word_width word field → spot_at spots k ≡ (b, p) → ⊥) → bit_in (set blobs blob new) b p ≡ bit_in blobs b p
    untouched b p none =
        ⊎_elim (λ (same : b ≡ blob).
        let there : bit_in blobs b p ≡ bit_of (get_or blobs blob []) p = ap (λ (w : ℕ). bit_in blobs w p) same in
        let moved : bit_in (set blobs blob new) b p ≡ bit_of new p = ap (λ (w : ℕ). bit_in (set blobs blob new) w p) same ∙ here p in
        ⊎_elim (λ (l : p < word_bit word start). moved ∙ before p l ∙ sym there)
        (λ (l : word_bit word start ≤ p).
        ⊎_elim (λ (m : p < word_bit word start + word_width word field).
        let bit = word_covers word field start p form l m in
        absurd (none bit.0 bit.1 (word_spot word field blob start bit.0 form bit.1 ∙ ap (λ (w : ℕ). (blob, w)) bit.2 ∙ ap (λ (w : ℕ). (w, p)) (sym same))))
        (λ (m : word_bit word start + word_width word field ≤ p). moved ∙ after p m ∙ sym there)
        (cases_lt p (word_bit word start + word_width word field)))
        (cases_lt p (word_bit word start)))
        (λ (other : b ≡ blob → ⊥). ap (λ (w : List ℕ). bit_of w p) (get_or-set_other blobs blob b new [] other))
        (cases_eq b blob)

    word_written : AreWritten blobs (set blobs blob new) spots (length spots) value
    word_written =
        subst (λ (n : ℕ). AreWritten blobs (set blobs blob new) spots n value) (sym (word_count word field blob start form)) (record {
          inside = λ k h. ap (λ (w : ℕ × ℕ). bit_in (set blobs blob new) w.0 w.1) (word_spot word field blob start k form h) ∙ here (word_place word start k) ∙ inside k h;
          outside = untouched;
          lengths =
              map-set (length {A = ℕ}) blobs blob new
              ∙ ap (set (map (length {A = ℕ}) blobs) blob) (len ∙ sym (get_or-map (length {A = ℕ}) blobs blob [] 0 blob_in))
              ∙ set-get_or (map (length {A = ℕ}) blobs) blob 0;
        })

-- a cell that is stored as a word
module _ {layout : List (List Owner)} {slots : ℕ} {holds : List Hold} {slot cell : ℕ} {hold : Hold} (word : Word) (field : Field) (blob start : ℕ) (form : IsPlaceWord word field)
    (at : IsCell layout slots holds slot cell hold (word_pieces word field blob start)) (blobs : List (List ℕ)) (sized : AreSized layout blobs)
    (signed : word_signed word field ≡ hold.signed) where
  width : word_width word field ≡ hold.width
  width = sym (word_count word field blob start form) ∙ bit_count at

  pub word_blob : blob < length blobs
  word_blob = (word_within word field blobs blob start form (within at blobs sized)).0

  pub word_room : word_bit word start + word_width word field ≤ 8 * length (get_or blobs blob [])
  word_room = (word_within word field blobs blob start form (within at blobs sized)).1

  -- what its bits say is the entry
  pub word_entry : (bytes : List ℕ) (value : ℤ) → bytes ≡ get_or blobs blob []
      → value ≡ decoded (word_signed word field) (word_width word field) (number (λ k. bit_of bytes (word_place word start k)) (word_width word field))
      → value ≡ entry (table_in layout slots holds blobs) slot cell
  word_entry bytes value is read =
      let bits : ℕ = number (λ k. bit_of bytes (word_place word start k)) (word_width word field) in
      read ∙ ap (λ (s : Bool). decoded s (word_width word field) bits) signed ∙ ap (λ (n : ℕ). decoded hold.signed n bits) width
      ∙ read_entry_is at blobs bits (by_pieces word field blobs blob start form bytes is)

  -- what the hold holds, the word holds
  pub word_held : (value : ℤ) → IsIn hold.signed hold.width value → IsIn (word_signed word field) (word_width word field) value
  word_held value held =
      subst (λ (s : Bool). IsIn s (word_width word field) value) (sym signed) (subst (λ (n : ℕ). IsIn hold.signed n value) (sym width) held)

  -- where its bits are those of a value, the entry is this value, and nothing else changed
  module _ (value : ℤ) (old new : List ℕ) (held : IsIn hold.signed hold.width value) (is : old ≡ get_or blobs blob [])
      (inside : (k : ℕ) → k < word_width word field → bit_of new (word_place word start k) ≡ bit_at (number (digit value) (word_width word field)) k)
      (before : (k : ℕ) → k < word_bit word start → bit_of new k ≡ bit_of old k)
      (after : (k : ℕ) → word_bit word start + word_width word field ≤ k → bit_of new k ≡ bit_of old k) (len : length new ≡ length old) where
    abbrev code : ℕ
    code = number (digit value) (word_width word field)

    code_is : number (digit value) (word_width word field) ≡ number (digit value) hold.width
    code_is = ap (number (digit value)) width

    written : AreWritten blobs (set blobs blob new) (spots_of (word_pieces word field blob start)) (length (spots_of (word_pieces word field blob start))) code
    written =
        let same : (k : ℕ) → bit_of old k ≡ bit_of (get_or blobs blob []) k = λ k. ap (λ (w : List ℕ). bit_of w k) is in
        word_written word field blobs blob start form new code word_blob inside (λ k l. before k l ∙ same k) (λ k l. after k l ∙ same k) (len ∙ ap (length {A = ℕ}) is)

    pub word_table : table_in layout slots holds (set blobs blob new) ≡ with_entry (table_in layout slots holds blobs) slot cell value
    word_table = written_table at blobs (set blobs blob new) value code code_is held written.inside written.outside

    pub word_laid : AreLaid layout blobs → AreLaid layout (set blobs blob new)
    word_laid laid =
        still_laid layout blobs (set blobs blob new) laid written.lengths
        (written_padding at blobs (set blobs blob new) value code code_is held written.inside written.outside)
