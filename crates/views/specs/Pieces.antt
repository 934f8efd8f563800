-- Slots that are cut into pieces, each of which lies in one block of either side, and bytes that are moved piece after piece.
use Rattle.std.specs.Prelude.{ℕ, zero, suc, ◌≡◌, ◌+◌, ◌-◌, ◌*◌, ◌%◌, ◌<◌, ◌≤◌, ◌==◌, ◌||◌, Bool, true, min, List, sum_by, Option, Some, IfSome, if◌then◌else◌}
use Rattle.views.specs.Imports.{range_with_len, Order, slot_count, IsMoved, blocks, Term, array_of, lanes_in}

-- whether a piece begins at a slot, where slots are cut at the multiples of two numbers
abbrev pub is_cut : ℕ → ℕ → ℕ → Bool
is_cut one two slot = (slot % one == 0) || (slot % two == 0)

-- how many of so many slots lie from a slot on before the next multiple of either number
abbrev pub piece_count : ℕ → ℕ → ℕ → ℕ → ℕ
piece_count slots one two slot = min (slots - slot) (min (one - slot % one) (two - slot % two))

-- the blocks of the piece that begins at a slot, if one does: of numbers of so many bytes, in slots from a first one to an end
abbrev pub piece_at : ℕ → ℕ → ℕ → ℕ → ℕ → ℕ → ℕ
piece_at one two size first end slot = if (slot == first) || is_cut one two slot then blocks (piece_count end one two slot * size) else 0

-- those of all pieces of so many slots from one on
unfoldable pub slot_steps : ℕ → ℕ → ℕ → ℕ → ℕ → ℕ
slot_steps one two size slot count = sum_by (piece_at one two size slot (slot + count)) (range_with_len slot count)

-- the same of two mappings that lay out arrays, cut at the lanes of each; where one lays out none, nothing is said
abbrev pub move_steps : Option (Order × Option ℕ) → Option (Order × Option ℕ) → List ℕ → ℕ → ℕ → ℕ → ℕ
move_steps (Some one) (Some two) extents size slot count = let slots = slot_count one.0 extents in slot_steps (lanes_in one.1 slots) (lanes_in two.1 slots) size slot count
move_steps _ _ extents size slot count = 0

-- a mapping that lays out arrays has so many slots from one on
abbrev pub HasSlots : Term → List ℕ → ℕ → ℕ → Type 0
HasSlots term extents slot count = IfSome (array_of term) (λ array. slot + count ≤ slot_count array.0 extents)

-- pieces of equal numbers of slots, from a slot on and before an end: each is one of those that slots are cut into
pub record ArePieces (one two end slot count pieces : ℕ) : Type 0 where
  pub some : 0 < count
  pub more : 0 < pieces
  pub inside : slot + pieces * count ≤ end
  pub first : (k : ℕ) → k < pieces → (slot + k * count) % one + count ≤ one
  pub second : (k : ℕ) → k < pieces → (slot + k * count) % two + count ≤ two
  pub each : (k : ℕ) → k < pieces → piece_count end one two (slot + k * count) ≡ count
  pub cuts : (k : ℕ) → 0 < k → k ≤ pieces → slot + k * count < end → is_cut one two (slot + k * count) ≡ true

-- bytes after so many pieces of others were moved one after another: piece `k` lies `k` steps behind the first, on either side
abbrev pub IsMovedEach : ℕ → ℕ → List ℕ → ℕ → ℕ → ℕ → ℕ → List ℕ → List ℕ → Type 0
IsMovedEach at to_step others from from_step len zero old new = new ≡ old
IsMovedEach at to_step others from from_step len (suc k) old new =
    (mid : List ℕ) × IsMovedEach at to_step others from from_step len k old mid × IsMoved mid (at + k * to_step) others (from + k * from_step) len new
