-- The places of pieces: how many there are before a piece, and which it adds.
use Rattle.std.specs.Prelude.{◌≡◌, ℕ, ◌+◌, ◌*◌, ◌%◌, ◌^◌, ◌<◌, ◌≤◌, List, [], ◌∷◌, ◌++◌, length, get_or, take, drop, map, refl}
use Rattle.piece_bits.specs.Imports.{sym, ap, ◌∙◌, subst, arith, range_with_len, take-append-drop, take_more, length-append, flat_map-append, get_or-flat_map, length-map-range_with_len, get_or-map-range_with_len, shl_whole, mul_comm, pow_mono, number, number_same, number_split, number_lt, Piece}
use Rattle.piece_bits.specs.Inner.Spots.{spots_of, spot_at, bit_at_spot}

-- the piece that a slice of pieces has past its end
abbrev pub nowhere : Piece
nowhere = record { blob = 0; bit = 0; bits = 0 }

-- the places of one piece
abbrev pub spots_in : Piece → List (ℕ × ℕ)
spots_in piece = map (λ bit. (piece.blob, bit)) (range_with_len piece.bit piece.bits)

pub length-spots_in : (piece : Piece) → length (spots_in piece) ≡ piece.bits
length-spots_in piece = length-map-range_with_len {X = ℕ × ℕ} (λ bit. (piece.blob, bit)) piece.bit piece.bits

-- the pieces in front have no more places than all
pub length-spots_front : (pieces : List Piece) (i : ℕ) → length (spots_of (take i pieces)) ≤ length (spots_of pieces)
length-spots_front pieces i =
    let joined : spots_of (take i pieces ++ drop i pieces) ≡ spots_of (take i pieces) ++ spots_of (drop i pieces) =
    flat_map-append spots_in (take i pieces) (drop i pieces) in
    let whole : length (spots_of pieces) ≡ length (spots_of (take i pieces) ++ spots_of (drop i pieces)) =
    ap (λ (w : List Piece). length (spots_of w)) (sym (take-append-drop i pieces)) ∙ ap length joined in
    omega (arith, length-append (spots_of (take i pieces)) (spots_of (drop i pieces)))

-- a piece is the next of the pieces, where those before it have `done` bits
pub record IsNext (pieces : List Piece) (i done : ℕ) (piece : Piece) : Type 0 where
  pub more : done + piece.bits ≡ length (spots_of (take (i + 1) pieces))
  pub within : done + piece.bits ≤ length (spots_of pieces)
  pub at : (k : ℕ) → k < piece.bits → spot_at (spots_of pieces) (done + k) ≡ (piece.blob, piece.bit + k)

length-spots_more : (pieces : List Piece) (i : ℕ) (d : Piece) → i < length pieces →
    length (spots_of (take (i + 1) pieces)) ≡ length (spots_of (take i pieces)) + (get_or pieces i d).bits
length-spots_more pieces i d inside =
    let piece : Piece = get_or pieces i d in
    let one : length (spots_in piece ++ []) ≡ length (spots_in piece) + 0 = length-append (spots_in piece) [] in
    let both : length (spots_of (take i pieces) ++ (spots_in piece ++ [])) ≡ length (spots_of (take i pieces)) + length (spots_in piece ++ []) =
    length-append (spots_of (take i pieces)) (spots_in piece ++ []) in
    let whole : length (spots_of (take (i + 1) pieces)) ≡ length (spots_of (take i pieces) ++ (spots_in piece ++ [])) =
    ap (λ (w : List Piece). length (spots_of w)) (take_more pieces i d inside) ∙ ap length (flat_map-append spots_in (take i pieces) (piece ∷ [])) in
    omega (arith, length-spots_in piece)

pub next_piece : (pieces : List Piece) (i done : ℕ) (d : Piece) → i < length pieces → done ≡ length (spots_of (take i pieces)) →
    IsNext pieces i done (get_or pieces i d)
next_piece pieces i done d inside so_far =
    let piece : Piece = get_or pieces i d in
    let longer : length (spots_of (take (i + 1) pieces)) ≡ length (spots_of (take i pieces)) + piece.bits = length-spots_more pieces i d inside in
    record {
      more = omega arith;
      within = omega (arith, length-spots_front pieces (i + 1));
      at = λ k l.
          ap (λ (w : ℕ). spot_at (spots_of pieces) (w + k)) so_far
          ∙ get_or-flat_map spots_in pieces i k d (0, 0) inside (omega (arith, length-spots_in piece))
          ∙ get_or-map-range_with_len {X = ℕ × ℕ} (λ bit. (piece.blob, bit)) piece.bit piece.bits k (piece.bit + k) (0, 0) l refl;
    }

-- the bits of one more piece, as a number
pub read_next : (pieces : List Piece) (i done : ℕ) (piece : Piece) (bits : ℕ → ℕ → ℕ) (value part : ℕ) → IsNext pieces i done piece →
    ((b p : ℕ) → bits b p < 2) → length (spots_of pieces) ≤ 64 →
    value ≡ number (bit_at_spot bits (spots_of pieces)) done → part ≡ number (λ k. bits piece.blob (piece.bit + k)) piece.bits →
    (value + part * 2 ^ done % 2 ^ 64 ≡ number (bit_at_spot bits (spots_of pieces)) (done + piece.bits)) × (value + part * 2 ^ done % 2 ^ 64 < 2 ^ 64)
read_next pieces i done piece bits value part next small few so_far is =
    let f : ℕ → ℕ = bit_at_spot bits (spots_of pieces) in
    let n : ℕ = piece.bits in
    let fits : part < 2 ^ n = subst (λ (w : ℕ). w < 2 ^ n) (sym is) (number_lt (λ k. bits piece.blob (piece.bit + k)) n (λ k l. small piece.blob (piece.bit + k))) in
    let whole : part * 2 ^ done % 2 ^ 64 ≡ part * 2 ^ done = shl_whole part n done 64 fits (omega (arith, next.within)) in
    let same : number (λ k. f (done + k)) n ≡ number (λ k. bits piece.blob (piece.bit + k)) n =
    number_same (λ k. f (done + k)) (λ k. bits piece.blob (piece.bit + k)) n (λ k l. ap (λ (w : ℕ × ℕ). bits w.0 w.1) (next.at k l)) in
    let part_is : 2 ^ done * number (λ k. f (done + k)) n ≡ part * 2 ^ done = ap (λ (w : ℕ). 2 ^ done * w) (same ∙ sym is) ∙ mul_comm (2 ^ done) part in
    let split : number f (done + n) ≡ number f done + 2 ^ done * number (λ k. f (done + k)) n = number_split f done n in
    let below : number f (done + n) < 2 ^ (done + n) = number_lt f (done + n) (λ k l. small (spot_at (spots_of pieces) k).0 (spot_at (spots_of pieces) k).1) in
    let order : done + n ≤ 64 = omega (arith, next.within) in
    let wide : 2 ^ (done + n) ≤ 2 ^ 64 = pow_mono order in
    let sum : value + part * 2 ^ done % 2 ^ 64 ≡ number f (done + n) = omega arith in
    (sum, omega arith)
