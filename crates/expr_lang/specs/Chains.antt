-- The terms of chains: a first operand, and what is done with its value, link by link.
use Rattle.std.specs.Prelude.{ℕ, not, ℤ, neg_ℤ, List, Ok}
use Rattle.expr_lang.specs.declared.bound.Operand.{Operand}
use Rattle.expr_lang.specs.declared.bound.Operand.TheVariants as operand
use Rattle.expr_lang.specs.declared.bound.Chain.{Chain}
use Rattle.expr_lang.specs.declared.bound.Links.{Links}
use Rattle.expr_lang.specs.declared.bound.Links.TheVariants as links
use Rattle.expr_lang.specs.declared.bound.Step.{Step}
use Rattle.expr_lang.specs.declared.bound.Step.TheVariants as step
use Rattle.expr_lang.specs.Terms.{Term, Number, Entry, Index, Neg, Not, Binary, IsWithin}
use Rattle.expr_lang.specs.Values.{Outcome, no_read, ◌>>=◌, ranged, truth, is_true, decided, result_of, unless_decided, outcome_of}

abbrev pub operand_term : Operand → Term ℕ
operand_term (operand.Number number) = Number number
operand_term (operand.Leaf leaf) = Entry leaf
operand_term (operand.Index dimension) = Index dimension

abbrev mutual
  -- the term that a step makes of one
  pub step_term : Term ℕ → Step → Term ℕ
  step_term term step.Neg = Neg term
  step_term term step.Not = Not term
  step_term term (step.Binary' op first rest) = Binary op term (links_term (operand_term first) rest)

  -- the term that links make of one, one after another
  pub links_term : Term ℕ → Links → Term ℕ
  links_term term links.End = term
  links_term term (links.More' p step rest) = links_term (step_term term step) rest

-- the term that a chain stands for
abbrev pub chain_term : Chain → Term ℕ
chain_term chain = links_term (operand_term chain.first) chain.links

-- what a step makes of a value
abbrev pub step_outcome : List ℤ → List ℕ → Step → ℤ → Outcome
step_outcome row index step.Neg x = no_read (ranged (neg_ℤ x))
step_outcome row index step.Not x = no_read (Ok (truth (not (is_true x))))
step_outcome row index (step.Binary' op first rest) x = unless_decided (decided op x) (do
  y ← outcome_of row index (links_term (operand_term first) rest)
  no_read (result_of op x y))

-- what links make of a value
abbrev pub links_outcome : List ℤ → List ℕ → Links → ℤ → Outcome
links_outcome row index links.End x = no_read (Ok x)
links_outcome row index (links.More' p step rest) x = step_outcome row index step x >>= links_outcome row index rest

-- the leaves and dimensions of a step, and of links, are within these bounds
abbrev pub IsStepWithin : ℕ → ℕ → Step → Type 0
IsStepWithin leaves rank (step.Binary' op first rest) = IsWithin leaves rank (links_term (operand_term first) rest)
IsStepWithin leaves rank _ = Unit {0}

abbrev pub AreWithin : ℕ → ℕ → Links → Type 0
AreWithin leaves rank links.End = Unit {0}
AreWithin leaves rank (links.More' p step rest) = IsStepWithin leaves rank step × AreWithin leaves rank rest
