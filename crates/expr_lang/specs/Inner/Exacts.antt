-- What an expression is worth on a row where nothing can fail, and how far from 0 it may lie.
use Rattle.std.specs.Prelude.{ℕ, ◌≡◌, ◌+◌, ◌*◌, ◌^◌, ◌<◌, ◌≤◌, max, Bool, true, not, ◌&&◌, ◌||◌, ℤ, pos, neg_ℤ, ◌+ℤ◌, ◌-ℤ◌, ◌*ℤ◌, int_lt, int_le, int_div, unsigned_abs, List, slice_index}
use Rattle.std.specs.List.{slice_index_or}
use Rattle.record_dim.specs.Std.{int_min, int_max, int_eq}
use Rattle.expr_lang.specs.declared.expr.BinOp.{BinOp}
use Rattle.expr_lang.specs.declared.expr.BinOp.TheVariants.{Add, Sub, Mul, Div, Rem, Min, Max, Eq, Ne, Lt, Le, Gt, Ge, And, Or}
use Rattle.expr_lang.specs.Terms.{Term, Number, Entry, Index, Neg, Not, Binary}
use Rattle.expr_lang.specs.Values.{truth, is_true}

-- the result of an operator, in whole numbers without bounds
abbrev pub exact_by : BinOp → ℤ → ℤ → ℤ
exact_by Add x y = x +ℤ y
exact_by Sub x y = x -ℤ y
exact_by Mul x y = x *ℤ y
exact_by Div x y = int_div x y
exact_by Rem x y = x -ℤ y *ℤ int_div x y
exact_by Min x y = int_min x y
exact_by Max x y = int_max x y
exact_by Eq x y = truth (int_eq x y)
exact_by Ne x y = truth (not (int_eq x y))
exact_by Lt x y = truth (int_lt x y)
exact_by Le x y = truth (int_le x y)
exact_by Gt x y = truth (int_lt y x)
exact_by Ge x y = truth (int_le y x)
exact_by And x y = truth (is_true x && is_true y)
exact_by Or x y = truth (is_true x || is_true y)

abbrev pub exact_of : List ℤ → List ℕ → Term ℕ → ℤ
exact_of row index (Number number) = number
exact_of row index (Entry leaf) = slice_index_or row leaf (pos 0)
exact_of row index (Index dimension) = pos (slice_index index dimension)
exact_of row index (Neg inner) = neg_ℤ (exact_of row index inner)
exact_of row index (Not inner) = truth (not (is_true (exact_of row index inner)))
exact_of row index (Binary op left right) = exact_by op (exact_of row index left) (exact_of row index right)

-- how far from 0 a result may lie, by how far its sides may
abbrev pub most_by : BinOp → ℕ → ℕ → ℕ
most_by Add m n = m + n
most_by Sub m n = m + n
most_by Mul m n = m * n
most_by Div m n = m
most_by Rem m n = m
most_by Min m n = max m n
most_by Max m n = max m n
most_by _ m n = 1

abbrev pub most_of : List ℕ → List ℕ → Term ℕ → ℕ
most_of leaves places (Number number) = unsigned_abs number
most_of leaves places (Entry leaf) = slice_index leaves leaf
most_of leaves places (Index dimension) = slice_index places dimension
most_of leaves places (Neg inner) = most_of leaves places inner
most_of leaves places (Not inner) = 1
most_of leaves places (Binary op left right) = most_by op (most_of leaves places left) (most_of leaves places right)

-- an operator has a result where this number is its right side
abbrev pub has_result : BinOp → ℤ → Bool
has_result Div y = is_true y
has_result Rem y = is_true y
has_result _ y = true

-- the number that a term is, and 0 where it is none
abbrev pub number_in : Term ℕ → ℤ
number_in (Number number) = number
number_in _ = pos 0

-- every part of a term has a result on all rows, and lies less than 2^63 from 0
abbrev pub IsSafe : List ℕ → List ℕ → Term ℕ → Type 0
IsSafe leaves places (Number number) = unsigned_abs number < 2 ^ 63
IsSafe leaves places (Entry leaf) = slice_index leaves leaf < 2 ^ 63
IsSafe leaves places (Index dimension) = slice_index places dimension < 2 ^ 63
IsSafe leaves places (Neg inner) = IsSafe leaves places inner
IsSafe leaves places (Not inner) = IsSafe leaves places inner
IsSafe leaves places (Binary op left right) =
    IsSafe leaves places left × IsSafe leaves places right × (has_result op (number_in right) ≡ true) × (most_by op (most_of leaves places left) (most_of leaves places right) < 2 ^ 63)

-- each entry of a row that a term names lies so near to 0, and each number of its index
abbrev pub IsReached : List ℕ → List ℕ → List ℤ → List ℕ → Term ℕ → Type 0
IsReached leaves places row index (Number number) = Unit {0}
IsReached leaves places row index (Entry leaf) = unsigned_abs (slice_index_or row leaf (pos 0)) ≤ slice_index leaves leaf
IsReached leaves places row index (Index dimension) = slice_index index dimension ≤ slice_index places dimension
IsReached leaves places row index (Neg inner) = IsReached leaves places row index inner
IsReached leaves places row index (Not inner) = IsReached leaves places row index inner
IsReached leaves places row index (Binary op left right) = IsReached leaves places row index left × IsReached leaves places row index right

-- how deep the right sides of operators nest
abbrev pub rights_of : Term ℕ → ℕ
rights_of (Neg inner) = rights_of inner
rights_of (Not inner) = rights_of inner
rights_of (Binary op left right) = max (rights_of left) (rights_of right + 1)
rights_of _ = 0
