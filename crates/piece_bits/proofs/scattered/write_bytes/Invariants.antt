use Rattle.piece_bits.proofs.Imports.{ℕ, ◌≡◌, ◌<◌, length, map, take, bit_at, bit_in, scattered_pieces, spots_of, spot_at, bit_at_spot}
use Rattle.piece_bits.proofs.scattered.write_bytes.Given as goal

abbrev pub invariant-loop-rule : goal.invariant-loop-rule
invariant-loop-rule l = record {
  so_far : l.done ≡ length (spots_of (take l.rule-index (scattered_pieces l.rules l.place)));
  inside : (k : ℕ) → k < l.done → bit_at_spot (bit_in l.blobs.items) (spots_of (scattered_pieces l.rules l.place)) k ≡ bit_at l.value k;
  outside : (b p : ℕ) → ((k : ℕ) → k < l.done → spot_at (spots_of (scattered_pieces l.rules l.place)) k ≡ (b, p) → ⊥) → bit_in l.blobs.items b p ≡ bit_in l.initial.blobs.items b p;
  lengths : map length l.blobs.items ≡ map length l.initial.blobs.items;
}
