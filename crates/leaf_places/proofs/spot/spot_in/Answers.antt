use Rattle.leaf_places.proofs.Imports.{◌+◌, length, take, get_or, refl, sym, ap, ◌∙◌, arith, ℕ, Piece, spots_of, spot_at, IsNext, nowhere, next_piece}
use Rattle.leaf_places.proofs.spot.spot_in.Goals as goal
use Rattle.leaf_places.proofs.spot.spot_in.Goals.{In-loop-piece}

abbrev done : In-loop-piece → ℕ
done c = length (spots_of (take c.loop-piece.piece-index c.args.pieces.now))

next : (c : In-loop-piece) → IsNext c.args.pieces.now c.loop-piece.piece-index (done c) (get_or c.args.pieces.now c.loop-piece.piece-index nowhere)
next c = next_piece c.args.pieces.now c.loop-piece.piece-index (done c) nowhere c.loop-piece-test.true refl

pub returns-then-left-piece : goal.returns-then-left-piece
returns-then-left-piece c =
    let d = (goal.at.returns-then-left-piece c).In-loop-piece in
    let piece : Piece = get_or c.args.pieces.now c.loop-piece.piece-index nowhere in
    ap (spot_at (spots_of c.args.pieces.now)) (omega (arith, c.loop-piece.invariant)) ∙ (next d).at c.loop-piece.left c.if-left-piece.true
    ∙ ap (λ (n : ℕ). (piece.blob, piece.bit + n)) (sym c.from.ensures)

pub loop-piece-preserved : goal.loop-piece-preserved
loop-piece-preserved c =
    omega (arith, c.loop-piece.invariant, (next ((goal.at.loop-piece-preserved c).In-loop-piece)).more, c.if-left-piece.false)
