use Rattle.piece_bits.proofs.Imports.{◌+◌, ◌*◌, ◌/◌, ◌%◌, ◌^◌, ◌≡◌, ◌<◌, ℕ, List, [], get_or, ap, ◌∙◌, arith, get_or_read, bit_at-lt, number, Piece, bit_of, bit_in, spots_of, bit_at_spot, IsWithin, IsNext, nowhere, next_piece, read_next}
use Rattle.piece_bits.proofs.pieces.read_pieces.Goals as goal

abbrev piece_of : goal.After-bits → Piece
piece_of c = get_or c.args.pieces.now c.loop-piece.piece-index nowhere

next : (c : goal.After-bits) → IsNext c.args.pieces.now c.loop-piece.piece-index c.loop-piece.done (piece_of c)
next c = next_piece c.args.pieces.now c.loop-piece.piece-index c.loop-piece.done nowhere c.loop-piece-test.true c.loop-piece.invariant.so_far

within : (c : goal.After-bits) → IsWithin c.args.blobs.now (piece_of c)
within c = c.requires.within c.loop-piece.piece-index nowhere c.loop-piece-test.true

read_on : (c : goal.After-bits) →
    (c.loop-piece.value + c.bits.result * 2 ^ c.loop-piece.done % 2 ^ 64 ≡ number (bit_at_spot (bit_in c.args.blobs.now) (spots_of c.args.pieces.now)) (c.loop-piece.done + (piece_of c).bits))
    × (c.loop-piece.value + c.bits.result * 2 ^ c.loop-piece.done % 2 ^ 64 < 2 ^ 64)
read_on c =
    let piece = piece_of c in
    let blob : c.index-blobs-piece.result ≡ get_or c.args.blobs.now piece.blob [] =
    get_or_read c.args.blobs.now piece.blob c.index-blobs-piece.result (within c).blob_in c.index-blobs-piece.is [] in
    read_next c.args.pieces.now c.loop-piece.piece-index c.loop-piece.done piece (bit_in c.args.blobs.now) c.loop-piece.value c.bits.result (next c)
    (λ b p. bit_at-lt (get_or (get_or c.args.blobs.now b []) (p / 8) 0) (p % 8)) c.requires.few c.loop-piece.invariant.read
    (c.bits.ensures ∙ ap (λ (w : List ℕ). number (λ k. bit_of w (piece.bit + k)) piece.bits) blob)

pub overflow_shl-value : goal.overflow_shl-value
overflow_shl-value c = omega (arith, (next c).within, (within c).some)

pub overflow_add-value : goal.overflow_add-value
overflow_add-value c = omega (arith, (read_on c).1)

pub overflow_add-done : goal.overflow_add-done
overflow_add-done c = omega (arith, (next c).within)

pub loop-piece-preserved : goal.loop-piece-preserved
loop-piece-preserved c = record { so_far = (next c).more; read = (read_on c).0 }
