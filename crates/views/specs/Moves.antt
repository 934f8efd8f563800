-- What a table is after bytes were moved from another, and what that takes.
use Rattle.std.specs.Prelude.{ℕ, ℤ, ◌≡◌, ◌+◌, ◌%◌, ◌/◌, ◌<◌, ◌≤◌, ⊤, List, length, sum_by, IfSome}
use Rattle.views.specs.Imports.{Order, slot_at, slot_count, width_of, is_signed, LeafType, entry, Owner, Hold, hold_at, kind_at, StoreMode, Strict, Wrap, blocks, Term, array_of, lanes_in}

-- the blocks of at most 64 bytes that all blobs of a layout are
abbrev pub blob_steps : List (List Owner) → ℕ
blob_steps layout = sum_by (λ blob. blocks (length blob / 8)) layout

-- the bytes of a leaf
abbrev pub size_of : LeafType → ℕ
size_of kind = width_of kind / 8

-- a leaf is stored in the sign and the width of its type
abbrev pub IsOwn : LeafType → Hold → Type 0
IsOwn kind hold = (hold.signed ≡ is_signed kind) × (hold.width ≡ width_of kind)

-- what the blobs of a view of one mode hold those of another may hold: a strict view holds nothing of one that keeps low bits unless each
-- leaf is stored so
abbrev pub MayMove : StoreMode → StoreMode → List LeafType → List Hold → Type 0
MayMove Wrap Strict kinds holds = (leaf : ℕ) → leaf < length kinds → IsOwn (kind_at kinds leaf) (hold_at holds leaf)
MayMove _ _ kinds holds = ⊤

-- slots from one on are slots of one block of a mapping that lays out arrays
abbrev pub IsInBlock : Term → List ℕ → ℕ → ℕ → Type 0
IsInBlock term extents slot count = IfSome (array_of term) (λ array. let slots = slot_count array.0 extents in
    (slot + count ≤ slots) × (slot % lanes_in array.1 slots + count ≤ lanes_in array.1 slots))

-- a row has one of these slots
abbrev pub IsInRun : Order → List ℕ → ℕ → ℕ → ℕ → Type 0
IsInRun order extents slot count row = (slot ≤ slot_at order extents row) × (slot_at order extents row < slot + count)

-- the entries of a leaf in the rows of these slots are those of another table, and all others stand
pub record IsRunMoved (order : Order) (extents : List ℕ) (rows leaves leaf slot count : ℕ) (source old new : List (List ℤ)) : Type 0 where
  pub moved : (row : ℕ) → row < rows → IsInRun order extents slot count row → entry new row leaf ≡ entry source row leaf
  pub stands : (row other : ℕ) → row < rows → other < leaves → (other ≡ leaf → IsInRun order extents slot count row → ⊥) → entry new row other ≡ entry old row other
