-- One byte of memory and its bits.
use Rattle.std.specs.Prelude.{◌≡◌, ℕ, ◌<◌, List, [], get_or, set}
use Rattle.actor_steps.specs.Imports.{arith, cases_eq, cases_lt, get_or-set_same, get_or-set_other, length-set, set_past, Owner, AreBytes, AreSized}
use Rattle.actor_steps.specs.Micro.{Place, byte_at, with_byte}
use Rattle.actor_steps.specs.Bytes.{IsByte}

module _ (layout : List (List Owner)) (memory : List (List ℕ)) (place : Place) (byte : ℕ) (sized : AreSized layout memory) where
  blob : List ℕ
  blob = get_or memory place.blob []

  pub with_byte-sized : AreSized layout (with_byte memory place byte)
  unfolding blob
  with_byte-sized = grind (arith, length-set, blob, get_or-set_same, get_or-set_other, cases_eq)

-- another byte stands
pub byte_at-other : (memory : List (List ℕ)) (place : Place) (byte : ℕ) (p : Place) → ((p.blob ≡ place.blob) × (p.byte ≡ place.byte) → ⊥)
    → byte_at (with_byte memory place byte) p ≡ byte_at memory p
byte_at-other memory place byte p other = grind (arith, get_or-set_same, get_or-set_other, set_past, cases_lt, cases_eq)

-- the byte itself, inside
pub byte_at-same : (layout : List (List Owner)) (memory : List (List ℕ)) (place : Place) (byte : ℕ) → AreSized layout memory → IsByte layout place
    → byte_at (with_byte memory place byte) place ≡ byte
byte_at-same layout memory place byte sized is = grind (arith, get_or-set_same)

set-bytes : (bytes : List ℕ) (i byte : ℕ) → byte < 256 → AreBytes bytes → AreBytes (set bytes i byte)
set-bytes bytes i byte low all k = grind (arith, get_or-set_same, set_past, cases_lt, get_or-set_other, cases_eq)

-- memory with another byte holds bytes
pub with_byte-bytes : (memory : List (List ℕ)) (place : Place) (byte : ℕ) → byte < 256 → ((b : ℕ) → AreBytes (get_or memory b []))
    → (b : ℕ) → AreBytes (get_or (with_byte memory place byte) b [])
with_byte-bytes memory place byte low all b = grind (arith, get_or-set_same, set-bytes, set_past, cases_lt, get_or-set_other, cases_eq)
