-- What a step makes of the value of a term is the value of the term that it makes.
use Rattle.std.specs.Prelude.{ℕ, ℤ, neg_ℤ, not, FitsSigned, List, unsigned_abs}
use Rattle.record_dim.specs.Std.{w64, ap, arith, fits_signed_from_abs}
use Rattle.expr_lang.specs.declared.bound.Step.{Step}
use Rattle.expr_lang.specs.declared.bound.Step.TheVariants as step
use Rattle.expr_lang.specs.Terms.{Term, Neg}
use Rattle.expr_lang.specs.Values.{truth, is_true}
use Rattle.expr_lang.specs.Chains.{step_term}
use Rattle.expr_lang.specs.Inner.Exacts.{exact_by, IsSafe}
use Rattle.expr_lang.specs.ExactsLaws.{worth}
use Rattle.expr_lang.specs.Inner.Steps.{lone_part, right_value, stepped, IsStepFit, IsWorthIn, IsRight}

module _ (leaves places : List ℕ) (row : List ℤ) (index : List ℕ) where
  -- what a step makes of the value of a term is that of the term behind it
  pub step_worth : (front : Term ℕ) (s : Step) (x y : ℤ) → IsWorthIn leaves places row index front x → IsRight leaves places row index s y
      → IsWorthIn leaves places row index (step_term front s) (stepped s x y)
  step_worth front step.Neg x y here right = record { is = ap neg_ℤ here.is; reached = here.reached }
  step_worth front step.Not x y here right = record { is = ap (λ (v : ℤ). truth (not (is_true v))) here.is; reached = here.reached }
  step_worth front (step.Binary' op first rest) x y here right = grind arith

  -- a term that no part of can fail has a value of 64 bits
  fits : (term : Term ℕ) (value : ℤ) → IsSafe leaves places term → IsWorthIn leaves places row index term value → FitsSigned w64 value
  fits term value safe is = grind (arith, worth, unsigned_abs, fits_signed_from_abs)

  pub step_fits : (front : Term ℕ) (s : Step) (x y : ℤ) → IsSafe leaves places (step_term front s) → IsWorthIn leaves places row index front x → IsRight leaves places row index s y
      → IsStepFit s x y
  step_fits front step.Neg x y safe here right = fits (Neg front) (neg_ℤ x) safe (step_worth front step.Neg x y here right)
  step_fits front step.Not x y safe here right = tt
  step_fits front (step.Binary' op first rest) x y safe here right =
      fits (step_term front (step.Binary' op first rest)) (exact_by op x (right_value (lone_part first rest) y)) safe (step_worth front (step.Binary' op first rest) x y here right)
