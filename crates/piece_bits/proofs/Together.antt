-- Pieces that follow each other make one.
use Rattle.piece_bits.proofs.Imports.{◌≡◌, ℕ, ◌+◌, ◌-◌, ◌%◌, ◌^◌, ◌<◌, All, List, ◌∷◌, ◌++◌, append_assoc, refl, sym, subst, arith, flat_map, range_with_len, All-cons, All-head, All-tail, Owner, IsPiece, IsLocated, owners_in, range_split, located, pieces_weaker, Piece, begin_in, pieces_in, PieceRule, AreJoined, Carries}
use Rattle.piece_bits.proofs.Places.{same_steps, same_piece}

abbrev pub piece : ℕ → ℕ → ℕ → Piece
piece blob bit bits = record { blob = blob; bit = bit; bits = bits }

-- two pieces of which the second begins where the first ends
pub pieces_join : (layout : List (List Owner)) (row cell width blob bit m n : ℕ) (rest : List Piece)
    → IsLocated layout row cell width (piece blob bit m ∷ piece blob (bit + m) n ∷ rest) → IsLocated layout row cell width (piece blob bit (m + n) ∷ rest)
pieces_join layout row cell width blob bit m n rest h =
    let one : Piece = piece blob bit m in
    let two : Piece = piece blob (bit + m) n in
    let Some : Piece → Type 0 = λ p. 0 < p.bits in
    let Bound : Piece → Type 0 = λ p. p.bit + p.bits < 2 ^ 64 in
    let Bytes : Piece → Type 0 = λ p. p.bits % 8 ≡ 0 in
    let some : All Some (one ∷ two ∷ rest) = pieces_weaker (IsPiece layout) Some (one ∷ two ∷ rest) (λ p is. is.some) h.each in
    let bound : All Bound (one ∷ two ∷ rest) = pieces_weaker (IsPiece layout) Bound (one ∷ two ∷ rest) (λ p is. is.bound) h.each in
    let first : 0 < m = All-head Some one (two ∷ rest) some in
    let last : bit + m + n < 2 ^ 64 = All-head Bound two rest (All-tail Bound one (two ∷ rest) bound) in
    let left : m + n - m ≡ n = omega arith in
    let parts : owners_in layout (piece blob bit (m + n)) ≡ owners_in layout one ++ owners_in layout two = grind (arith, range_split, range_with_len) in
    located layout row cell width (piece blob bit (m + n) ∷ rest) (grind (arith, flat_map, append_assoc))
    (All-cons Some (piece blob bit (m + n)) rest (omega arith) (All-tail Some two rest (All-tail Some one (two ∷ rest) some)))
    (All-cons Bound (piece blob bit (m + n)) rest (omega arith) (All-tail Bound two rest (All-tail Bound one (two ∷ rest) bound)))
    (λ whole.
    let bytes : All Bytes (one ∷ two ∷ rest) = h.bytes whole in
    let front : m % 8 ≡ 0 = All-head Bytes one (two ∷ rest) bytes in
    let back : n % 8 ≡ 0 = All-head Bytes two rest (All-tail Bytes one (two ∷ rest) bytes) in
    All-cons Bytes (piece blob bit (m + n)) rest (omega arith) (All-tail Bytes two rest (All-tail Bytes one (two ∷ rest) bytes)))

-- the same of rules
pub rules_join : (one next both : PieceRule) (rest : List PieceRule) → AreJoined one next both → Carries (one ∷ next ∷ rest) (both ∷ rest)
rules_join one next both rest h = λ layout row cell width slot placed.
    let steps = same_steps slot next.lanes one.lanes next.block one.block next.lane one.lane h.next_lanes h.next_block h.next_lane in
    let steps' = same_steps slot both.lanes one.lanes both.block one.block both.lane one.lane h.lanes h.block h.lane in
    let begins : begin_in next slot ≡ begin_in one slot + one.bits = omega (arith, steps, h.next_base) in
    let begins' : begin_in one slot ≡ begin_in both slot = omega (arith, steps', h.base) in
    let apart : piece next.blob (begin_in next slot) next.bits ≡ piece one.blob (begin_in one slot + one.bits) next.bits =
    same_piece next.blob one.blob (begin_in next slot) (begin_in one slot + one.bits) next.bits next.bits h.next_blob begins refl in
    let together : piece one.blob (begin_in one slot) (one.bits + next.bits) ≡ piece both.blob (begin_in both slot) both.bits =
    same_piece one.blob both.blob (begin_in one slot) (begin_in both slot) (one.bits + next.bits) both.bits (sym h.blob) begins' (sym h.bits) in
    let here : IsLocated layout row cell width (piece one.blob (begin_in one slot) one.bits ∷ piece one.blob (begin_in one slot + one.bits) next.bits ∷ pieces_in rest slot) =
    subst (λ (p : Piece). IsLocated layout row cell width (piece one.blob (begin_in one slot) one.bits ∷ p ∷ pieces_in rest slot)) apart placed in
    subst (λ (p : Piece). IsLocated layout row cell width (p ∷ pieces_in rest slot)) together
    (pieces_join layout row cell width one.blob (begin_in one slot) one.bits next.bits (pieces_in rest slot) here)
