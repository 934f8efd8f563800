-- One, two, four or eight bytes are 1 to 64 bits.
use Rattle.piece_bits.proofs.Imports.{ℕ, ◌≤◌, arith}
use Rattle.blobs.specs.Bits.{IsWholeBytes}

pub whole_some : (n : ℕ) → IsWholeBytes n → 1 ≤ n
whole_some n h = grind arith

pub whole_few : (n : ℕ) → IsWholeBytes n → n ≤ 64
whole_few n h = grind arith
