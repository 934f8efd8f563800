-- A number is how far from 0 a value may lie, where no part of it can fail.
use Rattle.std.specs.Prelude.{ℕ, ◌≡◌, ◌^◌, ◌<◌, ◌≤◌, true, ℤ, pos, List, Option}
use Rattle.expr_lang.specs.declared.bound.Step.{Step}
use Rattle.expr_lang.specs.declared.expr.BinOp.{BinOp}
use Rattle.expr_lang.specs.Chains.{step_term}
use Rattle.expr_lang.specs.Terms.{Term}
use Rattle.expr_lang.specs.Inner.Exacts.{most_by, most_of, has_result, IsSafe, rights_of}
use Rattle.expr_lang.specs.Inner.Steps.{right_value}

-- the same where right sides nest no deeper than so many levels
pub record IsMost (leaves places : List ℕ) (levels : ℕ) (term : Term ℕ) (most : ℕ) : Type 0 where
  pub is : most ≡ most_of leaves places term
  pub near : most < 2 ^ 63
  pub safe : IsSafe leaves places term
  pub shallow : rights_of term ≤ levels

-- it is so of what a step makes of any term of which another number is so
abbrev pub IsStepMost : List ℕ → List ℕ → ℕ → Step → ℕ → ℕ → Type 0
IsStepMost leaves places levels step before most = (term : Term ℕ) → IsMost leaves places levels term before → IsMost leaves places levels (step_term term step) most

-- it is so of an operator on two sides, where this is the number that the right one is
pub record IsMostBy (op : BinOp) (left right : ℕ) (number : Option ℤ) (most : ℕ) : Type 0 where
  pub is : most ≡ most_by op left right
  pub near : most < 2 ^ 63
  pub total : has_result op (right_value number (pos 0)) ≡ true
