use Rattle.piece_bits.proofs.Imports.{◌≡◌, length, take, number, bit_in, spots_of, bit_at_spot}
use Rattle.piece_bits.proofs.pieces.read_pieces.Given as goal

abbrev pub invariant-loop-piece : goal.invariant-loop-piece
invariant-loop-piece l = record {
  so_far : l.done ≡ length (spots_of (take l.piece-index l.pieces));
  read : l.value ≡ number (bit_at_spot (bit_in l.blobs) (spots_of l.pieces)) l.done;
}
