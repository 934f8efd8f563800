use Rattle.piece_bits.proofs.Imports.{◌≡◌, length, take, number, bit_in, scattered_pieces, spots_of, bit_at_spot}
use Rattle.piece_bits.proofs.scattered.read_bytes.Given as goal

abbrev pub invariant-loop-rule : goal.invariant-loop-rule
invariant-loop-rule l = record {
  so_far : l.done ≡ length (spots_of (take l.rule-index (scattered_pieces l.rules l.place)));
  read : l.value ≡ number (bit_at_spot (bit_in l.blobs) (spots_of (scattered_pieces l.rules l.place))) l.done;
}
