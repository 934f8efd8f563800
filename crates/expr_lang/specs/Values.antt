-- What an expression is worth on a row, in whole numbers without bounds: a number or the first fault, and the reads until then.
use Rattle.std.specs.Prelude.{ℕ, ◌^◌, Bool, true, false, not, ◌&&◌, ◌||◌, if◌then◌else◌, ℤ, pos, neg_ℤ, ◌+ℤ◌, ◌-ℤ◌, ◌*ℤ◌, int_lt, int_le, int_div, List, [], ◌∷◌, ◌++◌, slice_index, Option, Some, None, Result, Ok, Err}
use Rattle.std.specs.List.{slice_index_or}
use Rattle.record_dim.specs.Std.{int_min, int_max, int_eq}
use Rattle.expr_lang.specs.declared.expr.BinOp.{BinOp}
use Rattle.expr_lang.specs.declared.expr.BinOp.TheVariants.{Add, Sub, Mul, Div, Rem, Min, Max, Eq, Ne, Lt, Le, Gt, Ge, And, Or}
use Rattle.expr_lang.specs.declared.fault.EvalFault.{EvalFault}
use Rattle.expr_lang.specs.declared.fault.EvalFault.TheVariants.{Overflow, DivideByZero}
use Rattle.expr_lang.specs.Terms.{Term, Number, Entry, Index, Neg, Not, Binary}

-- a result, where it lies from -2^127 to 2^127 - 1
abbrev pub ranged : ℤ → Result ℤ EvalFault
ranged z = if int_le (neg_ℤ (pos (2 ^ 127))) z && int_lt z (pos (2 ^ 127)) then Ok z else Err Overflow

-- the same, where the divisor is not 0
abbrev pub divided : ℤ → ℤ → Result ℤ EvalFault
divided divisor z = if int_eq divisor (pos 0) then Err DivideByZero else ranged z

-- 1 for a fact that holds, and 0 for one that does not
abbrev pub truth : Bool → ℤ
truth true = pos 1
truth false = pos 0

-- any number but 0 is true
abbrev pub is_true : ℤ → Bool
is_true x = not (int_eq x (pos 0))

-- the result of an operator; `/` cuts toward zero, and a remainder is what the divisor times the quotient leaves
abbrev pub result_of : BinOp → ℤ → ℤ → Result ℤ EvalFault
result_of Add x y = ranged (x +ℤ y)
result_of Sub x y = ranged (x -ℤ y)
result_of Mul x y = ranged (x *ℤ y)
result_of Div x y = divided y (int_div x y)
result_of Rem x y = divided y (x -ℤ y *ℤ int_div x y)
result_of Min x y = Ok (int_min x y)
result_of Max x y = Ok (int_max x y)
result_of Eq x y = Ok (truth (int_eq x y))
result_of Ne x y = Ok (truth (not (int_eq x y)))
result_of Lt x y = Ok (truth (int_lt x y))
result_of Le x y = Ok (truth (int_le x y))
result_of Gt x y = Ok (truth (int_lt y x))
result_of Ge x y = Ok (truth (int_le y x))
result_of And x y = Ok (truth (is_true x && is_true y))
result_of Or x y = Ok (truth (is_true x || is_true y))

-- the result that the left side gives alone, with no look at the right one: that of `and` where it is 0, of `or` where it is not
abbrev pub decided : BinOp → ℤ → Option ℤ
decided And x = if is_true x then None else Some (pos 0)
decided Or x = if is_true x then Some (pos 1) else None
decided _ x = None

-- a number or the first fault, and the leaves that were read until then, in order
pub record Outcome : Type 0 where
  pub answer : Result ℤ EvalFault
  pub reads : List ℕ

-- an answer that reads nothing
abbrev pub no_read : Result ℤ EvalFault → Outcome
no_read answer = record { answer = answer; reads = [] }

-- what comes after the reads that are made already
abbrev pub after_reads : List ℕ → Outcome → Outcome
after_reads reads outcome = record { answer = outcome.answer; reads = reads ++ outcome.reads }

-- one thing after another: after a fault comes nothing
abbrev pub then_from : Result ℤ EvalFault → List ℕ → (ℤ → Outcome) → Outcome
then_from (Ok x) reads next = after_reads reads (next x)
then_from (Err fault) reads next = record { answer = Err fault; reads = reads }

infixl 10 ◌>>=◌
abbrev pub ◌>>=◌ : Outcome → (ℤ → Outcome) → Outcome
first >>= next = then_from first.answer first.reads next

abbrev pub unless_decided : Option ℤ → Outcome → Outcome
unless_decided (Some z) outcome = no_read (Ok z)
unless_decided None outcome = outcome

-- the left operand first, then the right one, then the operator
abbrev pub outcome_of : List ℤ → List ℕ → Term ℕ → Outcome
outcome_of row index (Number number) = no_read (Ok number)
outcome_of row index (Entry leaf) = record { answer = Ok (slice_index_or row leaf (pos 0)); reads = leaf ∷ [] }
outcome_of row index (Index dimension) = no_read (Ok (pos (slice_index index dimension)))
outcome_of row index (Neg inner) = do
  x ← outcome_of row index inner
  no_read (ranged (neg_ℤ x))
outcome_of row index (Not inner) = do
  x ← outcome_of row index inner
  no_read (Ok (truth (not (is_true x))))
outcome_of row index (Binary op left right) = do
  x ← outcome_of row index left
  unless_decided (decided op x) (do
    y ← outcome_of row index right
    no_read (result_of op x y))
