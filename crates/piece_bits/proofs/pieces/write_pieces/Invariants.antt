use Rattle.piece_bits.proofs.Imports.{ℕ, ◌≡◌, ◌<◌, length, map, take, bit_at, bit_in, spots_of, spot_at, bit_at_spot}
use Rattle.piece_bits.proofs.pieces.write_pieces.Given as goal

abbrev pub invariant-loop-piece : goal.invariant-loop-piece
invariant-loop-piece l = record {
  so_far : l.done ≡ length (spots_of (take l.piece-index l.pieces));
  inside : (k : ℕ) → k < l.done → bit_at_spot (bit_in l.blobs.items) (spots_of l.pieces) k ≡ bit_at l.value k;
  outside : (b p : ℕ) → ((k : ℕ) → k < l.done → spot_at (spots_of l.pieces) k ≡ (b, p) → ⊥) → bit_in l.blobs.items b p ≡ bit_in l.initial.blobs.items b p;
  lengths : map length l.blobs.items ≡ map length l.initial.blobs.items;
}
