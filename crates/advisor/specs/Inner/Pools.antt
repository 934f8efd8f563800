-- Candidates of the code, with what is known of each.
use Rattle.std.specs.Prelude.{ℕ, ◌≡◌, List, All, length, map}
use Rattle.advisor.specs.Imports.{Term, term_of, holds_by, Table, leaf_count_of}
use Rattle.advisor.specs.declared.candidate.Candidate.{Candidate}
use Rattle.advisor.specs.declared.pass.Pass.{Pass}
use Rattle.advisor.specs.Advice.{cost_of}
use Rattle.advisor.specs.Inner.SideCosts.{IsHold}

-- a candidate has the cost of its expression, and how it stores each leaf
pub record IsPriced (table : Table) (granule : ℕ) (passes : List Pass) (candidate : Candidate) : Type 0 where
  pub cost_is : candidate.cost ≡ cost_of table granule passes (term_of candidate.expr)
  pub holds_are : candidate.holds ≡ holds_by (term_of candidate.expr) table.fields
  pub each_leaf : length candidate.holds ≡ leaf_count_of table
  pub holds : All IsHold candidate.holds

-- how it stores each leaf is known of a candidate
pub record HasKnownHolds (table : Table) (candidate : Candidate) : Type 0 where
  pub holds_are : candidate.holds ≡ holds_by (term_of candidate.expr) table.fields
  pub each_leaf : length candidate.holds ≡ leaf_count_of table
  pub holds : All IsHold candidate.holds

-- the expressions of some
abbrev pub terms_in : List Candidate → List Term
terms_in pool = map (λ candidate. term_of candidate.expr) pool
