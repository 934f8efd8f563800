-- Expressions as terms without pointers, over paths or over the numbers of leaves, and the terms of the code's values.
use Rattle.std.specs.Prelude.{ℕ, ◌+◌, ◌<◌, max, ℤ, List}
use Rattle.record_dim.specs.Std.{×_prop, Unit-prop, le_prop}
use Rattle.record_dim.specs.declared.path.PathStep.{PathStep}
use Rattle.expr_lang.specs.declared.expr.BinOp.{BinOp}
use Rattle.expr_lang.specs.declared.expr.Expr.{Expr}
use Rattle.expr_lang.specs.declared.expr.Expr.TheVariants as expr

-- a number, the entry of a leaf, the index in a dimension, or an operator with its operands; an `A` names a leaf
pub data Term (A : Type 0) : Type 0 where
  Number : ℤ → Term A
  Entry : A → Term A
  Index : ℕ → Term A
  Neg : Term A → Term A
  Not : Term A → Term A
  Binary : BinOp → Term A → Term A → Term A

-- one more than the deepest operand, and 1 where there is none
abbrev pub depth_of : {A : Type 0} → Term A → ℕ
depth_of (Number number) = 1
depth_of (Entry leaf) = 1
depth_of (Index dimension) = 1
depth_of (Neg inner) = depth_of inner + 1
depth_of (Not inner) = depth_of inner + 1
depth_of (Binary op left right) = max (depth_of left) (depth_of right) + 1

-- the term that an expression of the code stands for, whose leaves are named by their paths
abbrev pub term_of : Expr → Term (List PathStep)
term_of (expr.Number number) = Number number
term_of (expr.Path path) = Entry path
term_of (expr.Index dimension) = Index dimension
term_of (expr.Neg' p inner) = Neg (term_of inner)
term_of (expr.Not' p inner) = Not (term_of inner)
term_of (expr.Binary' op p left q right) = Binary op (term_of left) (term_of right)

-- the numbers of leaves are below `leaves`, and those of dimensions below `rank`
abbrev pub IsWithin : ℕ → ℕ → Term ℕ → Type 0
IsWithin leaves rank (Number number) = Unit {0}
IsWithin leaves rank (Entry leaf) = leaf < leaves
IsWithin leaves rank (Index dimension) = dimension < rank
IsWithin leaves rank (Neg inner) = IsWithin leaves rank inner
IsWithin leaves rank (Not inner) = IsWithin leaves rank inner
IsWithin leaves rank (Binary op left right) = IsWithin leaves rank left × IsWithin leaves rank right

pub IsWithin-prop : (leaves rank : ℕ) (term : Term ℕ) → IsProp (IsWithin leaves rank term)
IsWithin-prop leaves rank (Number number) = Unit-prop
IsWithin-prop leaves rank (Entry leaf) = le_prop
IsWithin-prop leaves rank (Index dimension) = le_prop
IsWithin-prop leaves rank (Neg inner) = IsWithin-prop leaves rank inner
IsWithin-prop leaves rank (Not inner) = IsWithin-prop leaves rank inner
IsWithin-prop leaves rank (Binary op left right) = ×_prop (IsWithin-prop leaves rank left) (IsWithin-prop leaves rank right)
