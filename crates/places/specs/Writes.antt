-- What it is to write a cell, and the two laws of memory that every mapping keeps.
use Rattle.std.specs.Prelude.{ℕ, ◌<◌, ◌≡◌, ℤ, Bool, List, if◌then◌else◌, ◌==◌, ◌&&◌, slice_get, Some}
use Rattle.record_dim.specs.Prelude.{IsIn}
use Rattle.places.specs.Layout.{Owner, Pad, Bit, owner_at}
use Rattle.places.specs.Image.{digit, reading}
use Rattle.places.specs.declared.piece.Hold.{Hold}

-- the bit of a place after a value was written to a cell of a slot: a digit of the value where the cell owns the place, else as it was
abbrev pub written_bit : Owner → ℕ → ℕ → ℤ → ℕ → ℕ
written_bit Pad slot cell value old = old
written_bit (Bit s c k) slot cell value old = if (s == slot) && (c == cell) then digit value k else old

-- bits before and after a write of one cell of one slot
abbrev pub IsWrite : List (List Owner) → ℕ → ℕ → ℤ → (ℕ → ℕ → ℕ) → (ℕ → ℕ → ℕ) → Type 0
IsWrite layout slot cell value old new = (blob place : ℕ) → new blob place ≡ written_bit (owner_at layout blob place) slot cell value (old blob place)

-- a write to one cell of one slot changes no other, whatever its sign and width
abbrev pub WritesKeepOthers : List (List Owner) → Type 0
WritesKeepOthers layout = (slot cell : ℕ) (value : ℤ) (old new : ℕ → ℕ → ℕ) → IsWrite layout slot cell value old new
    → (s c : ℕ) (signed : Bool) (width : ℕ) → (s ≡ slot → c ≡ cell → ⊥) → reading layout new s c signed width ≡ reading layout old s c signed width

-- a value in the range of a cell's hold is read back where it was written
abbrev pub WritesReadBack : List (List Owner) → ℕ → List Hold → Type 0
WritesReadBack layout slots holds = (slot cell : ℕ) (hold : Hold) (value : ℤ) (old new : ℕ → ℕ → ℕ) → slot < slots → slice_get holds cell ≡ Some hold
    → IsIn hold.signed hold.width value → IsWrite layout slot cell value old new → reading layout new slot cell hold.signed hold.width ≡ value
