-- The cheapest of candidates that are marked.
use Rattle.std.specs.Prelude.{ℕ, ◌≡◌, ◌<◌, ◌≤◌, Bool, true, false, nat_lt, List, All, map, slice_index_or, Option, Some, None}
use Rattle.advisor.specs.Imports.{Term, term_of}
use Rattle.advisor.specs.declared.candidate.Candidate.{Candidate}

-- what each candidate costs, and one of such costs
abbrev pub costs_in : List Candidate → List ℕ
costs_in pool = map (λ candidate. candidate.cost) pool

abbrev pub cost_at : List ℕ → ℕ → ℕ
cost_at costs at = slice_index_or costs at 0

-- a candidate is marked
abbrev pub is_marked : List Bool → ℕ → Bool
is_marked marks at = slice_index_or marks at false

-- those are marked that suit, and each costs what its expression does
pub record AreMarked (suit : Term → Bool) (price : Term → ℕ) (pool : List Candidate) (marks : List Bool) : Type 0 where
  pub marks_are : marks ≡ map (λ candidate. suit (term_of candidate.expr)) pool
  pub costs_are : All (λ candidate. candidate.cost ≡ price (term_of candidate.expr)) pool

-- a candidate costs less than another, if there is one
abbrev pub undercuts : List ℕ → ℕ → Option ℕ → Bool
undercuts costs at None = true
undercuts costs at (Some other) = nat_lt (cost_at costs at) (cost_at costs other)

-- of the first so many a candidate is the first marked one that no marked one undercuts
pub record IsLeast (costs : List ℕ) (marks : List Bool) (count at : ℕ) : Type 0 where
  pub inside : at < count
  pub marked : is_marked marks at ≡ true
  pub least : (other : ℕ) → other < count → is_marked marks other ≡ true → cost_at costs at ≤ cost_at costs other
  pub first : (other : ℕ) → other < at → is_marked marks other ≡ true → cost_at costs at < cost_at costs other

-- or there is none, and none is marked
abbrev pub IsCheapest : List ℕ → List Bool → ℕ → Option ℕ → Type 0
IsCheapest costs marks count None = (other : ℕ) → other < count → is_marked marks other ≡ false
IsCheapest costs marks count (Some at) = IsLeast costs marks count at
