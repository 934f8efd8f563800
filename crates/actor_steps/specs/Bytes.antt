-- The bytes of a layout, and memory that has them.
use Rattle.std.specs.Prelude.{ℕ, ◌+◌, ◌*◌, ◌<◌, ◌≤◌, List, [], length, get_or}
use Rattle.actor_steps.specs.Imports.{Owner, AreBytes, AreSized}
use Rattle.actor_steps.specs.Micro.{Place}

-- a place is one of the bytes of a layout
pub record IsByte (layout : List (List Owner)) (place : Place) : Type 0 where
  pub blob_in : place.blob < length layout
  pub byte_in : 8 * place.byte + 8 ≤ length (get_or layout place.blob [])

-- memory of a layout: its blobs have the lengths of the layout, and hold bytes
pub record IsMemory (layout : List (List Owner)) (memory : List (List ℕ)) : Type 0 where
  pub sized : AreSized layout memory
  pub bytes : (b : ℕ) → AreBytes (get_or memory b [])
