-- The places of pieces whose bytes are in reverse order are the places before, their groups of 8 in reverse order.
use Rattle.map_bytes.proofs.Imports.{◌≡◌, ℕ, zero, suc, ◌+◌, ◌-◌, ◌*◌, ◌/◌, ◌%◌, ◌≤◌, List, [], ◌∷◌, ◌++◌, map, length, take, drop, All, reverse, refl, sym, ap, ◌∙◌, arith, length-append, append_assoc, flat_map, range_with_len, append-nil, reverse-append, nil_from_length, length-drop, drop-append-le, take-append-le, take_all, flat_map-append, length-map-range_with_len, map-range_with_len_more, All-head, All-tail, Piece, range_split, byte_of, piece_bytes, swapped, places_in, groups_back}

-- so many whole groups before others
groups_append : {X : Type 0} (n m : ℕ) (xs ys : List X) → length xs ≡ 8 * n → groups_back (n + m) (xs ++ ys) ≡ groups_back m ys ++ groups_back n xs
groups_append {X} zero m xs ys size = grind (arith, nil_from_length, append-nil)
groups_append {X} (suc n) m xs ys size =
    let next : suc n + m ≡ suc (n + m) = omega arith in
    let low : 8 ≤ length xs = omega arith in
    let left : length (drop 8 xs) ≡ 8 * n = length-drop 8 xs ∙ (let e : length xs - 8 ≡ 8 * n = omega arith in e) in
    ap (λ (k : ℕ). groups_back k (xs ++ ys)) next
    ∙ ap (λ (zs : List X). groups_back (n + m) zs ++ take 8 (xs ++ ys)) (drop-append-le 8 xs ys low)
    ∙ ap (λ (zs : List X). groups_back (n + m) (drop 8 xs ++ ys) ++ zs) (take-append-le 8 xs ys low)
    ∙ ap (λ (zs : List X). zs ++ take 8 xs) (groups_append n m (drop 8 xs) ys left)
    ∙ append_assoc (groups_back m ys) (groups_back n (drop 8 xs)) (take 8 xs)

abbrev places : Piece → List (ℕ × ℕ)
places piece = map (λ (bit : ℕ). (piece.blob, bit)) (range_with_len piece.bit piece.bits)

-- the first bytes of a piece
groups_of : (piece : Piece) (n : ℕ) → groups_back n (map (λ (bit : ℕ). (piece.blob, bit)) (range_with_len piece.bit (8 * n)))
    ≡ flat_map places (reverse (map (λ (j : ℕ). byte_of j piece) (range_with_len 0 n)))
groups_of piece zero = refl
groups_of piece (suc n) =
    let at : ℕ → ℕ × ℕ = λ (bit : ℕ). (piece.blob, bit) in
    let byte : ℕ → Piece = λ (j : ℕ). byte_of j piece in
    let bytes : List Piece = map byte (range_with_len 0 n) in
    let front : List (ℕ × ℕ) = map at (range_with_len piece.bit (8 * n)) in
    let last : List (ℕ × ℕ) = map at (range_with_len (piece.bit + 8 * n) 8) in
    let next : suc n ≡ n + 1 = omega arith in
    let start : 0 + n ≡ n = omega arith in
    let fits : 8 * n ≤ 8 * suc n = omega arith in
    let eight : 8 * suc n - 8 * n ≡ 8 = omega arith in
    let size : length front ≡ 8 * n = length-map-range_with_len {X = ℕ × ℕ} at piece.bit (8 * n) in
    let size' : length last ≡ 8 = length-map-range_with_len {X = ℕ × ℕ} at (piece.bit + 8 * n) 8 in
    let split : map at (range_with_len piece.bit (8 * suc n)) ≡ front ++ last =
    range_split {X = ℕ × ℕ} at piece.bit (8 * n) (8 * suc n) fits ∙ ap (λ (m : ℕ). front ++ map at (range_with_len (piece.bit + 8 * n) m)) eight in
    let left : groups_back (suc n) (map at (range_with_len piece.bit (8 * suc n))) ≡ last ++ flat_map places (reverse bytes) =
    ap (λ (k : ℕ). groups_back k (map at (range_with_len piece.bit (8 * suc n)))) next
    ∙ ap (λ (zs : List (ℕ × ℕ)). groups_back (n + 1) zs) split
    ∙ groups_append n 1 front last size
    ∙ ap (λ (zs : List (ℕ × ℕ)). zs ++ groups_back n front) (take_all 8 last (omega arith))
    ∙ ap (λ (zs : List (ℕ × ℕ)). last ++ zs) (groups_of piece n) in
    let right : flat_map places (reverse (map byte (range_with_len 0 (suc n)))) ≡ last ++ flat_map places (reverse bytes) =
    ap (λ (m : ℕ). flat_map places (reverse (map byte (range_with_len 0 m)))) next
    ∙ ap (λ (ps : List Piece). flat_map places (reverse ps)) (map-range_with_len_more byte 0 n n start)
    ∙ ap (λ (ps : List Piece). flat_map places ps) (reverse-append bytes (byte n ∷ [])) in
    left ∙ sym right

pub places_back : (pieces : List Piece) → All (λ piece. piece.bits % 8 ≡ 0) pieces
    → places_in (swapped pieces) ≡ groups_back (length (places_in pieces) / 8) (places_in pieces)
places_back [] whole = refl
places_back (piece ∷ pieces) whole =
    let at : ℕ → ℕ × ℕ = λ (bit : ℕ). (piece.blob, bit) in
    let q : ℕ = piece.bits / 8 in
    let rest : List (ℕ × ℕ) = places_in pieces in
    let m : ℕ = length rest / 8 in
    let bytes : piece.bits % 8 ≡ 0 = All-head (λ (p : Piece). p.bits % 8 ≡ 0) piece pieces whole in
    let exact : 8 * q ≡ piece.bits = omega arith in
    let size : length (places piece) ≡ piece.bits = length-map-range_with_len {X = ℕ × ℕ} at piece.bit piece.bits in
    let both : length (places piece ++ rest) ≡ length (places piece) + length rest = length-append (places piece) rest in
    let groups : q + m ≡ length (places piece ++ rest) / 8 = omega arith in
    let here : flat_map places (reverse (piece_bytes piece)) ≡ groups_back q (places piece) =
    sym (groups_of piece q) ∙ ap (λ (n : ℕ). groups_back q (map at (range_with_len piece.bit n))) exact in
    ap (λ (ps : List Piece). flat_map places ps) (reverse-append (piece_bytes piece) (flat_map piece_bytes pieces))
    ∙ flat_map-append places (swapped pieces) (reverse (piece_bytes piece))
    ∙ ap (λ (zs : List (ℕ × ℕ)). zs ++ flat_map places (reverse (piece_bytes piece))) (places_back pieces (All-tail (λ (p : Piece). p.bits % 8 ≡ 0) piece pieces whole))
    ∙ ap (λ (zs : List (ℕ × ℕ)). groups_back m rest ++ zs) here
    ∙ sym (groups_append q m (places piece) rest (omega arith))
    ∙ ap (λ (k : ℕ). groups_back k (places piece ++ rest)) groups
