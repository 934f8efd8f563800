-- What a table is after a piece of slots was copied from another, leaf after leaf.
use Rattle.std.specs.Prelude.{ℕ, ℤ, ◌≡◌, ◌<◌, List, length, Option, Some, None}
use Rattle.layout_copy.specs.Imports.{indices, Order, Row, entry, Term, array_of, IsInRun}

-- the order of the slots of a mapping that lays out arrays; of another one nothing is said
abbrev pub order_in : Option (Order × Option ℕ) → Order
order_in (Some array) = array.0
order_in None = Row

abbrev pub order_by : Term → Order
order_by term = order_in (array_of term)

-- in the rows of these slots the entries of the first so many leaves are those of another table, and all others stand
pub record IsPieceMoved (order : Order) (extents : List ℕ) (leaves done slot count : ℕ) (source old new : List (List ℤ)) : Type 0 where
  pub moved : (row leaf : ℕ) → row < length (indices extents) → leaf < done → IsInRun order extents slot count row
      → entry new row leaf ≡ entry source row leaf
  pub stands : (row leaf : ℕ) → row < length (indices extents) → leaf < leaves → (leaf < done → IsInRun order extents slot count row → ⊥)
      → entry new row leaf ≡ entry old row leaf
