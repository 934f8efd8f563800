-- By which way a copy goes.
use Rattle.layout_copy.proofs.Imports.{◌≡◌, ℕ, false, List, Some, slice_get, get_or_from_slice_get, LeafType, Truth, hold_of, Hold, hold_at, Term, IsStrategy, Strategy, IsOwn, kind_at, Table, IsWay, MayMoveTo}
use Rattle.map_any.specs.declared.strategy.Strategy.TheVariants as way
use Rattle.std.proofs.Common.{arith}

-- there is one strategy of two expressions
one_strategy : (one two : Term) (a b : Strategy) → IsStrategy one two a → IsStrategy one two b → a ≡ b
one_strategy one two a b h k = grind arith

-- and one way from a table to another
pub one_way : (source target : Table) (a b : Strategy) → IsWay source target a → IsWay source target b → a ≡ b
one_way source target a b h4 h5 = grind (arith, one_strategy)

-- a way that is not field by field is that of the expressions, and the blobs may be moved
pub moved_way : (source target : Table) (found strategy : Strategy) → found ≡ strategy → (strategy ≡ way.Fields → ⊥) → IsWay source target found
    → MayMoveTo source target × IsStrategy source.mapping target.mapping strategy
moved_way source target found strategy is other h6 = grind arith

-- how a leaf is stored that is read off the lists
module _ (kinds : List LeafType) (holds : List Hold) (leaf : ℕ) (kind : LeafType) (hold full : Hold) (kind_is : slice_get kinds leaf ≡ Some kind) (hold_is : slice_get holds leaf ≡ Some hold)
    (is : full ≡ hold_of kind) where
  same_kind : kind_at kinds leaf ≡ kind
  same_kind = get_or_from_slice_get kinds leaf kind Truth kind_is

  same_place : hold_at holds leaf ≡ hold
  same_place = get_or_from_slice_get holds leaf hold (record { signed = false; width = 0 }) hold_is

  pub own_read : hold.signed ≡ full.signed → hold.width ≡ full.width → IsOwn (kind_at kinds leaf) (hold_at holds leaf)
  own_read signed width = grind (arith, same_kind, same_place)

  pub read_own : IsOwn (kind_at kinds leaf) (hold_at holds leaf) → (hold.signed ≡ full.signed) × (hold.width ≡ full.width)
  read_own own = grind (arith, same_place, same_kind)
