use Rattle.map_checks.proofs.Imports.{ℕ, ◌≡◌, ◌-◌, nat_lt, List, arith, nat_le, ◌&&◌, PathStep, Fields, IsUnder, is_under, leaves_before, common_steps}
use Rattle.map_checks.proofs.sides.is_under.Goals as goal

-- the leaves of a node follow one another
under_is : (fields : Fields) (path : List PathStep) (first count leaf : ℕ) → IsUnder fields path first count
    → is_under fields path leaf ≡ (nat_le first leaf && nat_lt (leaf - first) count)
under_is fields path first count leaf u = grind (arith, leaves_before, nat_le, nat_lt)

pub returns-then-first-leaf : goal.returns-then-first-leaf
returns-then-first-leaf c = grind (arith, common_steps, nat_le, under_is, nat_lt)

pub returns-else-first-leaf : goal.returns-else-first-leaf
returns-else-first-leaf c = grind (arith, common_steps, nat_le, under_is, nat_lt)
