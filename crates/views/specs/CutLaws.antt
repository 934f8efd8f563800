-- The slots of two mappings that lay out arrays, and how they are cut.
use Rattle.std.specs.Prelude.{◌≡◌, ℕ, ◌+◌, ◌%◌, ◌≤◌, List, sum_by, Option, Some, None, option_map, refl, IfSome, IsSomeAnd}
use Rattle.views.specs.Imports.{subst, range_with_len, arith, Order, slot_count, Term, array_of, lanes_in, slots_in, AreRuns, ArraySlots}
use Rattle.views.specs.Moves.{IsInBlock}
use Rattle.views.specs.Pieces.{piece_at, slot_steps, move_steps, HasSlots}

-- the slots of a mapping that lays out arrays
pub slots_within : (term : Term) (extents : List ℕ) (slots : ArraySlots) (slot count : ℕ) → option_map (slots_in extents) (array_of term) ≡ Some slots → HasSlots term extents slot count
    → slot + count ≤ slots.slots
slots_within term extents slots slot count is has = of (array_of term) is has where
  of : (o : Option (Order × Option ℕ)) → option_map (slots_in extents) o ≡ Some slots → IfSome o (λ array. slot + count ≤ slot_count array.0 extents) → slot + count ≤ slots.slots
  of None is has = absurd (cc is)
  of (Some array) is has =
      let same : slots_in extents array ≡ slots = cc is in
      subst (λ (s : ArraySlots). slot + count ≤ s.slots) same has

-- slots of one block
pub block_in : (term : Term) (extents : List ℕ) (slots : ArraySlots) (slot count : ℕ) → option_map (slots_in extents) (array_of term) ≡ Some slots
    → slot + count ≤ slots.slots → slot % slots.lanes + count ≤ slots.lanes → IsInBlock term extents slot count
block_in term extents slots slot count is inside block = of (array_of term) is where
  of : (o : Option (Order × Option ℕ)) → option_map (slots_in extents) o ≡ Some slots
      → IfSome o (λ array. let n = slot_count array.0 extents in (slot + count ≤ n) × (slot % lanes_in array.1 n + count ≤ lanes_in array.1 n))
  of None is = tt
  of (Some array) is =
      let same : slots ≡ slots_in extents array = cc is in
      (subst (λ (s : ArraySlots). slot + count ≤ s.slots) same inside, subst (λ (s : ArraySlots). slot % s.lanes + count ≤ s.lanes) same block)

-- both sides have as many slots, and cut them so
module _ (extents : List ℕ) (from to : ArraySlots) where
  slots_alike : (o p : Option (Order × Option ℕ)) → IsSomeAnd p (λ array. IsSomeAnd o (λ other. array.0 ≡ other.0)) → option_map (slots_in extents) o ≡ Some from
      → option_map (slots_in extents) p ≡ Some to → from.slots ≡ to.slots
  slots_alike o p are first second = grind arith

  steps_alike : (size slot count : ℕ) (o p : Option (Order × Option ℕ)) → IsSomeAnd p (λ array. IsSomeAnd o (λ other. array.0 ≡ other.0))
      → option_map (slots_in extents) o ≡ Some from → option_map (slots_in extents) p ≡ Some to → move_steps o p extents size slot count ≡ slot_steps from.lanes to.lanes size slot count
  steps_alike size slot count o p are first second = grind arith

pub same_slots : (source target : Term) (others extents : List ℕ) (from to : ArraySlots) → extents ≡ others → AreRuns target source
    → option_map (slots_in others) (array_of source) ≡ Some from → option_map (slots_in extents) (array_of target) ≡ Some to → from.slots ≡ to.slots
same_slots source target others extents from to alike arrays one two = grind (arith, slots_alike, option_map)

pub same_steps : (source target : Term) (others extents : List ℕ) (from to : ArraySlots) (size slot count : ℕ) → extents ≡ others → AreRuns target source
    → option_map (slots_in others) (array_of source) ≡ Some from → option_map (slots_in extents) (array_of target) ≡ Some to
    → move_steps (array_of source) (array_of target) extents size slot count ≡ slot_steps from.lanes to.lanes size slot count
same_steps source target others extents from to size slot count alike arrays one two = grind (arith, steps_alike, option_map)

pub all_pieces : (one two size slot count : ℕ) → slot_steps one two size slot count ≡ sum_by (piece_at one two size slot (slot + count)) (range_with_len slot count)
unfolding slot_steps
all_pieces one two size slot count = refl
