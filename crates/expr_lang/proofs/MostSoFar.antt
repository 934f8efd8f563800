-- How far from 0 the value of a chain may lie, as far as its links have been walked.
use Rattle.expr_lang.proofs.Imports.{◌≡◌, ◌∙◌, ℕ, List, sym, ap, subst, arith, Links, Step, Term, step_term, links_term, IsMost, IsStepMost}
use Rattle.expr_lang.specs.declared.bound.Links.TheVariants as links

module _ (leaves places : List ℕ) (levels : ℕ) (whole : Term ℕ) where
  -- the number is that of a front of the whole term, behind which these links stand
  pub record IsMostSoFar (l : Links) (most : ℕ) : Type 0 where
    pub front : Term ℕ
    pub behind : links_term front l ≡ whole
    pub is_most : IsMost leaves places levels front most

  pub more : (all rest after : Links) (s done : Step) (p : _) (most now : ℕ) → all ≡ links.More' p s rest → done ≡ s → after ≡ rest → IsMostSoFar all most
      → IsStepMost leaves places levels done most now → IsMostSoFar after now
  more all rest after s done p most now is one two before step = grind (arith, step_term)

  pub ended : (l : Links) (most : ℕ) → l ≡ links.End → IsMostSoFar l most → IsMost leaves places levels whole most
  ended l most is all = subst (λ (term : Term ℕ). IsMost leaves places levels term most) (sym (ap (links_term all.front) is) ∙ all.behind) all.is_most
