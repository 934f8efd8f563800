-- One more piece of a value is written into blobs.
use Rattle.std.specs.Prelude.{◌≡◌, ℕ, ◌+◌, ◌-◌, ◌/◌, ◌%◌, ◌^◌, ◌<◌, ◌≤◌, List, [], length, get_or, set, map}
use Rattle.piece_bits.specs.Imports.{sym, ap, ◌∙◌, ⊎_elim, arith, bit_at, get_or-set_same, get_or-set_other, get_or-map, length-map, map-set, set-get_or, cases_lt, cases_eq, Piece, bit_of, bit_in, bit_of_part}
use Rattle.piece_bits.specs.Inner.Spots.{spots_of, spot_at, bit_at_spot, IsWithin, AreApart}
use Rattle.piece_bits.specs.SpotsOfLaws.{IsNext}

-- a piece lies within blobs of the same lengths
pub within_same : (old new : List (List ℕ)) (piece : Piece) → map length new ≡ map length old → IsWithin old piece → IsWithin new piece
within_same old new piece same within =
    let count : length new ≡ length old =
    sym (length-map new (length {A = ℕ})) ∙ ap (length {A = ℕ}) same ∙ length-map old (length {A = ℕ}) in
    let blob_in : piece.blob < length new = omega (arith, within.blob_in) in
    let long : length (get_or new piece.blob []) ≡ length (get_or old piece.blob []) =
    sym (get_or-map (length {A = ℕ}) new piece.blob [] 0 blob_in)
    ∙ ap (λ (w : List ℕ). get_or w piece.blob 0) same
    ∙ get_or-map (length {A = ℕ}) old piece.blob [] 0 within.blob_in in
    record { blob_in = blob_in; bits_in = omega (arith, within.bits_in); some = within.some }

-- the bits of places up to `done` are written, and all other bits stand
pub record AreWritten (old new : List (List ℕ)) (spots : List (ℕ × ℕ)) (done value : ℕ) : Type 0 where
  pub inside : (k : ℕ) → k < done → bit_at_spot (bit_in new) spots k ≡ bit_at value k
  pub outside : (b p : ℕ) → ((k : ℕ) → k < done → spot_at spots k ≡ (b, p) → ⊥) → bit_in new b p ≡ bit_in old b p
  pub lengths : map length new ≡ map length old

module _ (start blobs : List (List ℕ)) (pieces : List Piece) (i done value : ℕ) (piece : Piece) (so_far : AreWritten start blobs (spots_of pieces) done value)
    (next : IsNext pieces i done piece) (within : IsWithin blobs piece) (apart : AreApart (spots_of pieces))
    (new : List ℕ) (part : ℕ) (part_is : part ≡ value / 2 ^ done % 2 ^ piece.bits)
    (inside : (k : ℕ) → k < piece.bits → bit_of new (piece.bit + k) ≡ bit_at part k)
    (before : (k : ℕ) → k < piece.bit → bit_of new k ≡ bit_of (get_or blobs piece.blob []) k)
    (after : (k : ℕ) → piece.bit + piece.bits ≤ k → bit_of new k ≡ bit_of (get_or blobs piece.blob []) k)
    (len : length new ≡ length (get_or blobs piece.blob [])) where
  here : (p : ℕ) → bit_in (set blobs piece.blob new) piece.blob p ≡ bit_of new p
  here p = ap (λ (w : List ℕ). bit_of w p) (get_or-set_same blobs piece.blob new [] within.blob_in)

  elsewhere : (b p : ℕ) → (b ≡ piece.blob → ⊥) → bit_in (set blobs piece.blob new) b p ≡ bit_in blobs b p
  elsewhere b p other = ap (λ (w : List ℕ). bit_of w p) (get_or-set_other blobs piece.blob b new [] other)

  -- a place that the piece has not stands
  stands : (b p : ℕ) → ((j : ℕ) → j < piece.bits → spot_at (spots_of pieces) (done + j) ≡ (b, p) → ⊥) → bit_in (set blobs piece.blob new) b p ≡ bit_in blobs b p
  stands b p none =
      ⊎_elim (λ (same : b ≡ piece.blob).
      let there : bit_in blobs b p ≡ bit_of (get_or blobs piece.blob []) p = ap (λ (w : ℕ). bit_in blobs w p) same in
      let moved : bit_in (set blobs piece.blob new) b p ≡ bit_of new p = ap (λ (w : ℕ). bit_in (set blobs piece.blob new) w p) same ∙ here p in
      ⊎_elim (λ (l : p < piece.bit). moved ∙ before p l ∙ sym there)
      (λ (l : piece.bit ≤ p).
      ⊎_elim (λ (m : p < piece.bit + piece.bits).
      let spot : spot_at (spots_of pieces) (done + (p - piece.bit)) ≡ (b, p) =
      next.at (p - piece.bit) (omega arith) ∙ ap (λ (w : ℕ). (piece.blob, w)) (omega arith) ∙ ap (λ (w : ℕ). (w, p)) (sym same) in
      absurd (none (p - piece.bit) (omega arith) spot))
      (λ (m : piece.bit + piece.bits ≤ p). moved ∙ after p m ∙ sym there)
      (cases_lt p (piece.bit + piece.bits)))
      (cases_lt p piece.bit))
      (λ (other : b ≡ piece.blob → ⊥). elsewhere b p other)
      (cases_eq b piece.blob)

  written_inside : (k : ℕ) → k < done + piece.bits → bit_at_spot (bit_in (set blobs piece.blob new)) (spots_of pieces) k ≡ bit_at value k
  written_inside k l =
      let spot = spot_at (spots_of pieces) k in
      ⊎_elim (λ (m : k < done). grind (arith, stands))
      (λ (m : done ≤ k).
      let back : done + (k - done) ≡ k = omega arith in
      ap (λ (w : ℕ × ℕ). bit_in (set blobs piece.blob new) w.0 w.1) (ap (spot_at (spots_of pieces)) (sym back) ∙ next.at (k - done) (omega arith))
      ∙ here (piece.bit + (k - done)) ∙ inside (k - done) (omega arith)
      ∙ ap (λ (w : ℕ). bit_at w (k - done)) part_is ∙ bit_of_part value done piece.bits (k - done) (omega arith) ∙ ap (bit_at value) back)
      (cases_lt k done)

  pub write_next : AreWritten start (set blobs piece.blob new) (spots_of pieces) (done + piece.bits) value
  write_next = record {
    inside = written_inside;
    outside = λ b p none.
        stands b p (λ j l. none (done + j) (omega arith)) ∙ so_far.outside b p (λ k l. none k (omega arith));
    lengths =
        map-set (length {A = ℕ}) blobs piece.blob new
        ∙ ap (set (map (length {A = ℕ}) blobs) piece.blob) (len ∙ sym (get_or-map (length {A = ℕ}) blobs piece.blob [] 0 within.blob_in))
        ∙ set-get_or (map (length {A = ℕ}) blobs) piece.blob 0 ∙ so_far.lengths;
  }
