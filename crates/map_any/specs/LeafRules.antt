-- What accesses to leaves go by.
use Rattle.std.specs.Prelude.{◌≡◌, ◌≤ℤ◌}
use Rattle.map_any.specs.Imports.{ℕ, ℤ, true, false, List, length, map, slice_index, slice_index_or, is_signed, IsIn, IsDeclared, LeafType, Truth, Owner, Hold, EachWith, IsRuleOf, IsSameRule, IsShortOf, leads, AreReadWide, Rule}
use Rattle.map_any.specs.declared.leaf_rule.LeafRule.{LeafRule}

-- the type of a leaf, and how it is stored; outside of the lists any
abbrev pub kind_in : List LeafType → ℕ → LeafType
kind_in kinds leaf = slice_index_or kinds leaf Truth

abbrev pub hold_in : List Hold → ℕ → Hold
hold_in holds leaf = slice_index_or holds leaf (record { signed = false; width = 0 })

-- its short form, if there is one, says what its rule says over the extents of an array, and is of the sign of the type; and from its least
-- to its greatest value each is declared and held
pub record IsLeafRule (kind : LeafType) (extents : List ℕ) (hold : Hold) (leaf : LeafRule) : Type 0 where
  pub short : leads leaf.short.walk ≡ true → IsShortOf leaf.rule.order extents leaf.rule.pieces.items hold leaf.short
  pub sign : leads leaf.short.walk ≡ true → hold.signed ≡ is_signed kind
  pub taken : (value : ℤ) → leaf.least ≤ℤ value → value ≤ℤ leaf.greatest → IsDeclared kind value × IsIn hold.signed hold.width value

-- so many of its rows are read by one load of eight bytes, where blobs have so many bytes; outside of the list a blob has none
abbrev pub IsWideIn : List ℕ → LeafRule → Type 0
IsWideIn lengths leaf = AreReadWide leaf.short (slice_index_or lengths leaf.short.blob 0) leaf.wide

-- those of leaves of these types, which are stored so and lie there
pub record AreLeafRules (kinds : List LeafType) (extents : List ℕ) (holds : List Hold) (rules : List Rule) (leaves : List LeafRule) : Type 0 where
  pub each : length leaves ≡ length kinds
  pub same : EachWith (λ k leaf. IsSameRule (slice_index_or rules k leaf.rule) leaf.rule) leaves
  pub whole : EachWith (λ k leaf. IsLeafRule (kind_in kinds k) extents (hold_in holds k) leaf) leaves

-- those of the leaves of a layout by rows
pub record AreRuled (layout : List (List Owner)) (extents : List ℕ) (kinds : List LeafType) (holds : List Hold) (leaves : List LeafRule) : Type 0 where
  pub each : length leaves ≡ length kinds
  pub places : EachWith (λ k leaf. IsRuleOf layout extents k (slice_index (map (λ h. h.width) holds) k) leaf.rule) leaves
  pub whole : EachWith (λ k leaf. IsLeafRule (kind_in kinds k) extents (hold_in holds k) leaf) leaves
