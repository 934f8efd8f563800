-- What a step makes of a value, where the value of its right side stands beside it.
use Rattle.std.specs.Prelude.{ℕ, ◌≡◌, true, not, ℤ, pos, neg_ℤ, FitsSigned, List, Option, Some, None}
use mir.Syntax.{w64}
use Rattle.expr_lang.specs.declared.bound.Operand.{Operand}
use Rattle.expr_lang.specs.declared.bound.Operand.TheVariants as operand
use Rattle.expr_lang.specs.declared.bound.Links.{Links}
use Rattle.expr_lang.specs.declared.bound.Links.TheVariants as links
use Rattle.expr_lang.specs.declared.bound.Step.{Step}
use Rattle.expr_lang.specs.declared.bound.Step.TheVariants as step
use Rattle.expr_lang.specs.Terms.{Term}
use Rattle.expr_lang.specs.Values.{truth, is_true}
use Rattle.expr_lang.specs.Chains.{operand_term, links_term}
use Rattle.expr_lang.specs.Inner.Exacts.{exact_by, exact_of, has_result, IsSafe, IsReached}

-- the number that a chain is, where it is no more than one
abbrev pub lone_part : Operand → Links → Option ℤ
lone_part (operand.Number number) links.End = Some number
lone_part _ _ = None

-- the value of a right side: that number, or the value beside
abbrev pub right_value : Option ℤ → ℤ → ℤ
right_value (Some number) y = number
right_value None y = y

-- what a step makes of a value, with this one beside
abbrev pub stepped : Step → ℤ → ℤ → ℤ
stepped step.Neg x y = neg_ℤ x
stepped step.Not x y = truth (not (is_true x))
stepped (step.Binary' op first rest) x y = exact_by op x (right_value (lone_part first rest) y)

-- that has 64 bits with a sign
abbrev pub IsStepFit : Step → ℤ → ℤ → Type 0
IsStepFit step.Neg x y = FitsSigned w64 (neg_ℤ x)
IsStepFit step.Not x y = Unit {0}
IsStepFit (step.Binary' op first rest) x y = FitsSigned w64 (exact_by op x (right_value (lone_part first rest) y))

-- it has a result of all sides, and no part of its right side can fail; the same of each step of links
abbrev pub IsStepSafe : List ℕ → List ℕ → Step → Type 0
IsStepSafe leaves places (step.Binary' op first rest) = IsSafe leaves places (links_term (operand_term first) rest) × (has_result op (right_value (lone_part first rest) (pos 0)) ≡ true)
IsStepSafe leaves places _ = Unit {0}

abbrev pub AreStepsSafe : List ℕ → List ℕ → Links → Type 0
AreStepsSafe leaves places links.End = Unit {0}
AreStepsSafe leaves places (links.More' p step rest) = IsStepSafe leaves places step × AreStepsSafe leaves places rest

-- a value is that of a term on a row, whose entries and index lie near enough
pub record IsWorthIn (leaves places : List ℕ) (row : List ℤ) (index : List ℕ) (term : Term ℕ) (value : ℤ) : Type 0 where
  pub is : value ≡ exact_of row index term
  pub reached : IsReached leaves places row index term

-- the same of a right side, where it is more than a number
abbrev pub IsBeside : List ℕ → List ℕ → List ℤ → List ℕ → Option ℤ → Term ℕ → ℤ → Type 0
IsBeside leaves places row index (Some number) term y = Unit {0}
IsBeside leaves places row index None term y = IsWorthIn leaves places row index term y

abbrev pub IsRight : List ℕ → List ℕ → List ℤ → List ℕ → Step → ℤ → Type 0
IsRight leaves places row index (step.Binary' op first rest) y = IsBeside leaves places row index (lone_part first rest) (links_term (operand_term first) rest) y
IsRight leaves places row index _ y = Unit {0}
