-- Slots of a leaf that are moved one run after another.
use Rattle.views.proofs.Imports.{◌≡◌, ℕ, ◌+◌, ◌<◌, ℤ, List, length, Option, sym, subst, arith, IfSome, cases_lt, Order, array_of, IsInBlock, IsRunMoved, with_rows, Table, IsTable, leaf_count_of}

-- a run behind another
run_joined : (order : Order) (extents : List ℕ) (rows leaves leaf slot first count : ℕ) (source old mid new : List (List ℤ)) → leaf < leaves
    → IsRunMoved order extents rows leaves leaf slot first source old mid → IsRunMoved order extents rows leaves leaf (slot + first) count source mid new
    → IsRunMoved order extents rows leaves leaf slot (first + count) source old new
run_joined order extents rows leaves leaf slot first count source old mid new leaf_in one two = grind (arith, cases_lt)

pub runs_joined : (o : Option (Order × Option ℕ)) (extents : List ℕ) (rows leaves leaf slot first count : ℕ) (source old mid new : List (List ℤ)) → leaf < leaves
    → IfSome o (λ array. IsRunMoved array.0 extents rows leaves leaf slot first source old mid)
    → IfSome o (λ array. IsRunMoved array.0 extents rows leaves leaf (slot + first) count source mid new)
    → IfSome o (λ array. IsRunMoved array.0 extents rows leaves leaf slot (first + count) source old new)
runs_joined o extents rows leaves leaf slot first count source old mid new leaf_in one two = grind (arith, run_joined)

-- the same of a table of which so many slots were moved
pub runs_more : (old now : Table) (leaf slot first count : ℕ) (source new : List (List ℤ)) → now ≡ with_rows old now.rows → IsTable old → IsTable now → leaf < leaf_count_of old
    → IfSome (array_of old.mapping) (λ array. IsRunMoved array.0 old.extents (length old.rows) (leaf_count_of old) leaf slot first source old.rows now.rows)
    → IfSome (array_of now.mapping) (λ array. IsRunMoved array.0 now.extents (length now.rows) (leaf_count_of now) leaf (slot + first) count source now.rows new)
    → IfSome (array_of old.mapping) (λ array. IsRunMoved array.0 old.extents (length old.rows) (leaf_count_of old) leaf slot (first + count) source old.rows new)
runs_more old now leaf slot first count source new same was is leaf_in so_far next = grind (arith, runs_joined)

-- what is said of a table is said of it with other rows
pub still_block : (old now : Table) (slot count : ℕ) → now ≡ with_rows old now.rows → IsInBlock old.mapping old.extents slot count → IsInBlock now.mapping now.extents slot count
still_block old now slot count same block = subst (λ (t : Table). IsInBlock t.mapping t.extents slot count) (sym same) block
