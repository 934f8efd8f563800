-- Mappings whose cells lie in arrays: which these are, and what their rules say of each cell in every slot, also in one that no row has.
use Rattle.std.specs.Prelude.{ℕ, ◌≡◌, ◌^◌, ◌≤◌, List, [], length, map, Option, Some, None, IfSome, slice_index, slice_index_or}
use Rattle.map_checks.specs.Imports.{Order, slot_count, Owner, aosoa, soa_layout, widths_of, full_holds, AreRulesOf, IsDense, Cell, PieceRule, Term, Soa, Aosoa, Count, Heat}
use Rattle.map_checks.specs.Ruled.{EachWith}
use Rattle.map_checks.specs.declared.rule.Rule.{Rule}

-- a mapping that is a struct of arrays at its top, or an array of such: the order of its slots, and how many of them a block has; where it
-- has no blocks, all slots are one
abbrev pub array_of : Term → Option (Order × Option ℕ)
array_of (Soa form order) = Some (order, None)
array_of (Aosoa lanes order) = Some (order, Some lanes)
array_of (Count inner) = array_of inner
array_of (Heat granule inner) = array_of inner
array_of _ = None

-- the slots of a block
abbrev pub lanes_in : Option ℕ → ℕ → ℕ
lanes_in None slots = slots
lanes_in (Some lanes) slots = lanes

-- a cell of this width has one piece in every one of so many slots, and the pieces of a block lie one behind another
pub record IsArray (layout : List (List Owner)) (slots lanes cell width : ℕ) (rule : Rule) : Type 0 where
  pub few : slots ≤ 2 ^ 24
  pub alone : length rule.pieces.items ≡ 1
  pub bits : (d : PieceRule) → (slice_index_or rule.pieces.items 0 d).bits ≡ width
  pub places : AreRulesOf layout slots cell width rule.pieces.items
  pub dense : (d : PieceRule) → IsDense lanes (slice_index_or rule.pieces.items 0 d)

abbrev pub AreArrays : List (List Owner) → ℕ → ℕ → List ℕ → List Rule → Type 0
AreArrays layout slots lanes widths rules = EachWith (λ cell rule. IsArray layout slots lanes cell (slice_index widths cell) rule) rules

-- the layout of such a mapping over cells of these widths, by slots
abbrev pub array_layout : Term → ℕ → List ℕ → List (List Owner)
array_layout (Soa form order) slots widths = soa_layout form slots widths
array_layout (Aosoa lanes order) slots widths = aosoa lanes slots widths
array_layout (Count inner) slots widths = array_layout inner slots widths
array_layout (Heat granule inner) slots widths = array_layout inner slots widths
array_layout _ slots widths = []

-- the rule of one cell, and those of all, of a mapping whose cells lie in arrays; of another nothing is said
abbrev pub IsArrayOf : Term → List ℕ → List Cell → ℕ → Rule → Type 0
IsArrayOf term extents cells cell rule = IfSome (array_of term) (λ array. let slots = slot_count array.0 extents in
    IsArray (array_layout term slots (widths_of cells)) slots (lanes_in array.1 slots) cell (slice_index (map (λ h. h.width) (full_holds cells)) cell) rule)

abbrev pub HasArrays : Term → List ℕ → List Cell → List Rule → Type 0
HasArrays term extents cells rules = IfSome (array_of term) (λ array. let slots = slot_count array.0 extents in
    AreArrays (array_layout term slots (widths_of cells)) slots (lanes_in array.1 slots) (map (λ h. h.width) (full_holds cells)) rules)
