-- How rows become slots over the extents of an array.
use Rattle.std.specs.Prelude.{ℕ, ◌≡◌, ◌<◌, true, false, List, [], ◌∷◌, length}
use Rattle.piece_bits.specs.Imports.{Order, Morton, indices, slot_at}
use Rattle.piece_bits.specs.Walks.{leads, walks_in_blocks, slot_by}
use Rattle.piece_bits.specs.declared.walk.Walk.{Walk}
use Rattle.piece_bits.specs.declared.walk.Walk.TheVariants as walk

-- a walk leads each row to its slot by an order, where slots lie in blocks of a power of two
pub record IsRowPath (order : Order) (extents : List ℕ) (power : ℕ) (way : Walk) (lines columns : ℕ) : Type 0 where
  pub some : leads way ≡ true
  pub single : walks_in_blocks way ≡ false → power ≡ 0
  pub slots : (row : ℕ) → row < length (indices extents) → slot_by way lines columns row ≡ slot_at order extents row
  pub turned : way ≡ walk.Morton → order ≡ Morton
  pub over : way ≡ walk.Morton → extents ≡ lines ∷ columns ∷ []
