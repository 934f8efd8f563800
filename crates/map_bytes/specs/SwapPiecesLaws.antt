-- Pieces with their bytes in reverse order are the places of a cell whose bytes are in reverse order.
use Rattle.std.specs.Prelude.{◌≡◌, ℕ, zero, suc, ◌+◌, ◌-◌, ◌*◌, ◌/◌, ◌%◌, ◌^◌, ◌<◌, ◌≤◌, List, [], ◌∷◌, ◌++◌, map, length, get_or, All, reverse, refl}
use Rattle.map_bytes.specs.Imports.{sym, ap, ◌∙◌, arith, flat_map, range_with_len, reverse-append, flat_map-append, length-map-range_with_len, map-range_with_len_more, All-head, All-tail, Owner, Bit, owner_at, renamed, byteswap, IsLocated, owners_in, owner_relabel, same_ranges, range_split, spells_split, located, Piece}
use Rattle.map_bytes.specs.Cuts.{byte_of, piece_bytes, swapped}
use Rattle.map_bytes.specs.CutLaws.{all_parts_back}

all_swapped : (P : Piece → Type 0) (pieces : List Piece) → All (λ piece. (j : ℕ) → j < piece.bits / 8 → P (byte_of j piece)) pieces → All P (swapped pieces)
all_swapped P pieces h = all_parts_back byte_of (λ (p : Piece). p.bits / 8) P pieces h

pub swapped_eights : (pieces : List Piece) → All (λ piece. piece.bits ≡ 8) (swapped pieces)
swapped_eights pieces = all_swapped (λ (p : Piece). p.bits ≡ 8) pieces (λ k d inside j low. refl)

module _ (layout : List (List Owner)) (ws : List ℕ) (s c : ℕ) (whole : get_or ws c 0 % 8 ≡ 0) where
  abbrev new : List (List Owner)
  new = byteswap ws layout

  abbrev name : ℕ → ℕ → ℕ → Owner
  name slot cell bit = Bit slot cell (get_or ws cell 0 - 8 - 8 * (bit / 8) + bit % 8)

  -- one byte of a piece that spells the bits of a cell from `a` on
  byte_spelled : (piece : Piece) (a q j : ℕ) → j < q → a % 8 ≡ 0 → a + 8 * q ≤ get_or ws c 0
      → ((k : ℕ) → k < 8 * q → owner_at layout piece.blob (piece.bit + k) ≡ Bit s c (a + k))
      → owners_in new (byte_of j piece) ≡ map (Bit s c) (range_with_len (get_or ws c 0 - (a + 8 * q) + 8 * (q - 1 - j)) 8)
  byte_spelled piece a q j low bytes inside each =
      let w : ℕ = get_or ws c 0 in
      same_ranges (owner_at new piece.blob) (Bit s c) (piece.bit + 8 * j) (w - (a + 8 * q) + 8 * (q - 1 - j)) 8
      (λ i i_in.
      let at : piece.bit + 8 * j + i ≡ piece.bit + (8 * j + i) = omega arith in
      let i_low : 8 * j + i < 8 * q = omega arith in
      let bit : w - 8 - 8 * ((a + (8 * j + i)) / 8) + (a + (8 * j + i)) % 8 ≡ w - (a + 8 * q) + 8 * (q - 1 - j) + i = omega arith in
      owner_relabel name layout piece.blob (piece.bit + 8 * j + i)
      ∙ ap (renamed name) (ap (owner_at layout piece.blob) at ∙ each (8 * j + i) i_low)
      ∙ ap (Bit s c) bit)

  -- so many bytes, the last first
  bytes_spelled : (f : ℕ → Piece) (b q : ℕ) → ((j : ℕ) → j < q → owners_in new (f j) ≡ map (Bit s c) (range_with_len (b + 8 * (q - 1 - j)) 8))
      → (n : ℕ) → n ≤ q → flat_map (owners_in new) (reverse (map f (range_with_len 0 n))) ≡ map (Bit s c) (range_with_len (b + 8 * (q - n)) (8 * n))
  bytes_spelled f b q each zero low = refl
  bytes_spelled f b q each (suc n) low =
      let so_far : flat_map (owners_in new) (reverse (map f (range_with_len 0 n))) ≡ map (Bit s c) (range_with_len (b + 8 * (q - n)) (8 * n)) =
      bytes_spelled f b q each n (omega arith) in
      let next : suc n ≡ n + 1 = omega arith in
      let start : 0 + n ≡ n = omega arith in
      let fits : 8 ≤ 8 * suc n = omega arith in
      let begin : b + 8 * (q - 1 - n) ≡ b + 8 * (q - suc n) = omega arith in
      let place : b + 8 * (q - n) ≡ b + 8 * (q - suc n) + 8 = omega arith in
      let rest : 8 * n ≡ 8 * suc n - 8 = omega arith in
      let later : List Piece = reverse (map f (range_with_len 0 n)) in
      ap (λ (m : ℕ). flat_map (owners_in new) (reverse (map f (range_with_len 0 m)))) next
      ∙ ap (λ (ps : List Piece). flat_map (owners_in new) (reverse ps)) (map-range_with_len_more f 0 n n start)
      ∙ ap (λ (ps : List Piece). flat_map (owners_in new) ps) (reverse-append (map f (range_with_len 0 n)) (f n ∷ []))
      ∙ ap (λ (os : List Owner). os ++ flat_map (owners_in new) later) (each n (omega arith) ∙ ap (λ (a : ℕ). map (Bit s c) (range_with_len a 8)) begin)
      ∙ ap (λ (os : List Owner). map (Bit s c) (range_with_len (b + 8 * (q - suc n)) 8) ++ os)
      (so_far ∙ ap (λ (a : ℕ). map (Bit s c) (range_with_len a (8 * n))) place ∙ ap (λ (m : ℕ). map (Bit s c) (range_with_len (b + 8 * (q - suc n) + 8) m)) rest)
      ∙ sym (range_split (Bit s c) (b + 8 * (q - suc n)) 8 (8 * suc n) fits)

  -- all pieces
  pieces_spelled : (pieces : List Piece) (a n : ℕ) → All (λ piece. piece.bits % 8 ≡ 0) pieces
      → flat_map (owners_in layout) pieces ≡ map (Bit s c) (range_with_len a n) → a % 8 ≡ 0 → a + n ≤ get_or ws c 0
      → flat_map (owners_in new) (swapped pieces) ≡ map (Bit s c) (range_with_len (get_or ws c 0 - (a + n)) n)
  pieces_spelled [] a n all e start inside =
      let size : length (map (Bit s c) (range_with_len a n)) ≡ n = length-map-range_with_len (Bit s c) a n in
      let none : 0 ≡ n = ap (λ (os : List Owner). length os) e ∙ size in
      ap (λ (m : ℕ). map (Bit s c) (range_with_len (get_or ws c 0 - (a + n)) m)) none
  pieces_spelled (piece ∷ pieces) a n all e start inside =
      let w : ℕ = get_or ws c 0 in
      let bits : ℕ = piece.bits in
      let q : ℕ = bits / 8 in
      let split = spells_split layout (Bit s c) a n piece pieces e in
      let fits : bits ≤ n = split.fits in
      let bytes : bits % 8 ≡ 0 = All-head (λ (p : Piece). p.bits % 8 ≡ 0) piece pieces all in
      let exact : 8 * q ≡ bits = omega arith in
      let later : flat_map (owners_in new) (swapped pieces) ≡ map (Bit s c) (range_with_len (w - (a + bits + (n - bits))) (n - bits)) =
      pieces_spelled pieces (a + bits) (n - bits) (All-tail (λ (p : Piece). p.bits % 8 ≡ 0) piece pieces all) split.rest (omega arith) (omega arith) in
      let here : flat_map (owners_in new) (reverse (piece_bytes piece)) ≡ map (Bit s c) (range_with_len (w - (a + 8 * q) + 8 * (q - q)) (8 * q)) =
      bytes_spelled (λ (j : ℕ). byte_of j piece) (w - (a + 8 * q)) q
      (λ j j_in. byte_spelled piece a q j j_in start (omega arith) (λ k k_in. split.first k (omega arith))) q (omega arith) in
      let begin : w - (a + bits + (n - bits)) ≡ w - (a + n) = omega arith in
      let next : w - (a + 8 * q) + 8 * (q - q) ≡ w - (a + n) + (n - bits) = omega arith in
      let many : 8 * q ≡ n - (n - bits) = omega arith in
      ap (λ (ps : List Piece). flat_map (owners_in new) ps) (reverse-append (piece_bytes piece) (flat_map piece_bytes pieces))
      ∙ flat_map-append (owners_in new) (swapped pieces) (reverse (piece_bytes piece))
      ∙ ap (λ (os : List Owner). os ++ flat_map (owners_in new) (reverse (piece_bytes piece))) (later ∙ ap (λ (b : ℕ). map (Bit s c) (range_with_len b (n - bits))) begin)
      ∙ ap (λ (os : List Owner). map (Bit s c) (range_with_len (w - (a + n)) (n - bits)) ++ os)
      (here ∙ ap (λ (b : ℕ). map (Bit s c) (range_with_len b (8 * q))) next
      ∙ ap (λ (m : ℕ). map (Bit s c) (range_with_len (w - (a + n) + (n - bits)) m)) many)
      ∙ sym (range_split (Bit s c) (w - (a + n)) (n - bits) n (omega arith))

  pub swap_located : (pieces : List Piece) → IsLocated layout s c (get_or ws c 0) pieces → IsLocated new s c (get_or ws c 0) (swapped pieces)
  swap_located pieces h =
      let w : ℕ = get_or ws c 0 in
      let all : All (λ piece. piece.bits % 8 ≡ 0) pieces = h.bytes whole in
      let begin : w - (0 + w) ≡ 0 = omega arith in
      let zero_bytes : 0 % 8 ≡ 0 = omega arith in
      located new s c w (swapped pieces)
      (pieces_spelled pieces 0 w all h.spelled zero_bytes (omega arith) ∙ ap (λ (b : ℕ). map (Bit s c) (range_with_len b w)) begin)
      (all_swapped (λ (p : Piece). 0 < p.bits) pieces (λ k d inside j low. let z : 0 < 8 = omega arith in z))
      (all_swapped (λ (p : Piece). p.bit + p.bits < 2 ^ 64) pieces
      (λ k d inside j low.
      let piece : Piece = get_or pieces k d in
      let bound : piece.bit + piece.bits < 2 ^ 64 = (h.each k d inside).bound in
      let bytes : piece.bits % 8 ≡ 0 = all k d inside in
      let z : piece.bit + 8 * j + 8 < 2 ^ 64 = omega arith in z))
      (λ e. all_swapped (λ (p : Piece). p.bits % 8 ≡ 0) pieces (λ k d inside j low. let z : 8 % 8 ≡ 0 = omega arith in z))
