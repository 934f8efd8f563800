-- One piece alone: its places, and what is read and written there.
use Rattle.std.specs.Prelude.{◌≡◌, ℕ, ℤ, ◌+◌, ◌/◌, ◌%◌, ◌^◌, ◌<◌, ◌≤◌, List, [], ◌∷◌, length, get_or, set, refl}
use Rattle.piece_bits.specs.Imports.{sym, ap, ◌∙◌, subst, arith, bit_at, mod-eq_of_lt, Piece, IsIn, Hold, Owner, number, digit, decoded, entry, number_same, number_lt, digit_lt, bit_of, bit_in}
use Rattle.piece_bits.specs.CellsLaws.{IsCell, bit_count, apart, within, read_entry_is, written_table, written_padding, still_laid}
use Rattle.piece_bits.specs.Inner.Spots.{spots_of, spot_at, bit_at_spot, IsWithin, AreApart}
use Rattle.piece_bits.specs.SpotsOfLaws.{IsNext, next_piece, nowhere}
use Rattle.piece_bits.specs.Tables.{AreLaid, table_in, with_entry}
use Rattle.piece_bits.specs.WritesLaws.{AreWritten, write_next}

one_next : (piece : Piece) → IsNext (piece ∷ []) 0 0 piece
one_next piece = next_piece (piece ∷ []) 0 0 piece (omega arith) refl

-- as many places as bits
pub one_count : (piece : Piece) → length (spots_of (piece ∷ [])) ≡ piece.bits
one_count piece = grind (arith, one_next)

pub one_at : (piece : Piece) (k : ℕ) → k < piece.bits → spot_at (spots_of (piece ∷ [])) k ≡ (piece.blob, piece.bit + k)
one_at piece k l =
    ap (spot_at (spots_of (piece ∷ []))) (sym (omega arith)) ∙ (one_next piece).at k l

-- the bits of the piece, as a number
pub read_one : (blobs : List (List ℕ)) (piece : Piece) (value : ℕ) → value ≡ number (λ k. bit_of (get_or blobs piece.blob []) (piece.bit + k)) piece.bits →
    value ≡ number (bit_at_spot (bit_in blobs) (spots_of (piece ∷ []))) (length (spots_of (piece ∷ [])))
read_one blobs piece value is = grind (arith, number_same, one_at, one_count)

-- the bits of the piece are written, and no others
pub write_one : (blobs : List (List ℕ)) (piece : Piece) (value : ℕ) (new : List ℕ) → IsWithin blobs piece → AreApart (spots_of (piece ∷ [])) → value < 2 ^ piece.bits →
    ((k : ℕ) → k < piece.bits → bit_of new (piece.bit + k) ≡ bit_at value k) →
    ((k : ℕ) → k < piece.bit → bit_of new k ≡ bit_of (get_or blobs piece.blob []) k) →
    ((k : ℕ) → piece.bit + piece.bits ≤ k → bit_of new k ≡ bit_of (get_or blobs piece.blob []) k) →
    length new ≡ length (get_or blobs piece.blob []) →
    AreWritten blobs (set blobs piece.blob new) (spots_of (piece ∷ [])) (length (spots_of (piece ∷ []))) value
write_one blobs piece value new within apart small inside before after len =
    let start : AreWritten blobs blobs (spots_of (piece ∷ [])) 0 value =
    record { inside = λ k l. absurd (omega arith); outside = λ b p none. refl; lengths = refl } in
    let part : value ≡ value / 2 ^ 0 % 2 ^ piece.bits = sym (ap (λ (w : ℕ). w % 2 ^ piece.bits) (omega arith) ∙ mod-eq_of_lt small) in
    subst (λ (n : ℕ). AreWritten blobs (set blobs piece.blob new) (spots_of (piece ∷ [])) n value) ((one_next piece).more)
    (write_next blobs blobs (piece ∷ []) 0 0 value piece start (one_next piece) within apart new value part inside before after len)

-- a cell that lies in the piece alone
module _ {layout : List (List Owner)} {slots : ℕ} {holds : List Hold} {slot cell : ℕ} {hold : Hold} {piece : Piece}
    (at : IsCell layout slots holds slot cell hold (piece ∷ [])) (blobs : List (List ℕ)) (laid : AreLaid layout blobs) where
  pub one_width : piece.bits ≡ hold.width
  one_width = sym (one_count piece) ∙ bit_count at

  pub one_within : IsWithin blobs piece
  one_within = within at blobs laid.sized 0 nowhere (omega arith)

  -- what its bits say is the entry
  pub one_entry : (blob : List ℕ) (value : ℤ) → blob ≡ get_or blobs piece.blob []
      → value ≡ decoded hold.signed piece.bits (number (λ k. bit_of blob (piece.bit + k)) piece.bits) → value ≡ entry (table_in layout slots holds blobs) slot cell
  one_entry blob value is read =
      let bits : ℕ = number (λ k. bit_of blob (piece.bit + k)) piece.bits in
      read ∙ ap (λ (n : ℕ). decoded hold.signed n bits) one_width
      ∙ read_entry_is at blobs bits (read_one blobs piece bits (ap (λ (w : List ℕ). number (λ k. bit_of w (piece.bit + k)) piece.bits) is))

  -- where its bits are those of a value, the entry is this value, and nothing else changed
  module _ (value : ℤ) (code : ℕ) (old new : List ℕ) (held : IsIn hold.signed hold.width value) (code_is : code ≡ number (digit value) hold.width)
      (is : old ≡ get_or blobs piece.blob []) (inside : (k : ℕ) → k < piece.bits → bit_of new (piece.bit + k) ≡ bit_at code k)
      (before : (k : ℕ) → k < piece.bit → bit_of new k ≡ bit_of old k)
      (after : (k : ℕ) → piece.bit + piece.bits ≤ k → bit_of new k ≡ bit_of old k) (len : length new ≡ length old) where
    small : code < 2 ^ piece.bits
    small = grind (arith, one_width, number_lt, digit_lt)

    written : AreWritten blobs (set blobs piece.blob new) (spots_of (piece ∷ [])) (length (spots_of (piece ∷ []))) code
    written =
        let same : (k : ℕ) → bit_of old k ≡ bit_of (get_or blobs piece.blob []) k = λ k. ap (λ (w : List ℕ). bit_of w k) is in
        write_one blobs piece code new one_within (apart at) small inside (λ k l. before k l ∙ same k) (λ k l. after k l ∙ same k) (len ∙ ap (length {A = ℕ}) is)

    pub one_table : table_in layout slots holds (set blobs piece.blob new) ≡ with_entry (table_in layout slots holds blobs) slot cell value
    one_table = written_table at blobs (set blobs piece.blob new) value code code_is held written.inside written.outside

    pub one_laid : AreLaid layout (set blobs piece.blob new)
    one_laid =
        still_laid layout blobs (set blobs piece.blob new) laid written.lengths
        (written_padding at blobs (set blobs piece.blob new) value code code_is held written.inside written.outside)
