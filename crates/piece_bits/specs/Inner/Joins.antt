-- Pieces that follow each other, as one.
use Rattle.std.specs.Prelude.{ℕ, ◌≡◌, ◌+◌, List}
use Rattle.piece_bits.specs.Imports.{Owner, IsLocated, pieces_in, PieceRule}

-- a rule has the bits of two, of which the second begins where the first ends
pub record AreJoined (one next joined : PieceRule) : Type 0 where
  pub next_blob : next.blob ≡ one.blob
  pub next_lanes : next.lanes ≡ one.lanes
  pub next_block : next.block ≡ one.block
  pub next_lane : next.lane ≡ one.lane
  pub next_base : next.base ≡ one.base + one.bits
  pub blob : joined.blob ≡ one.blob
  pub base : joined.base ≡ one.base
  pub lanes : joined.lanes ≡ one.lanes
  pub block : joined.block ≡ one.block
  pub lane : joined.lane ≡ one.lane
  pub bits : joined.bits ≡ one.bits + next.bits

-- wherever the pieces of some rules are the places of a cell, so are those of others
abbrev pub Carries : List PieceRule → List PieceRule → Type 0
Carries rules others = (layout : List (List Owner)) (row cell width slot : ℕ) → IsLocated layout row cell width (pieces_in rules slot)
    → IsLocated layout row cell width (pieces_in others slot)
