-- The advice by candidates that are at hand.
use Rattle.advisor.proofs.Imports.{◌≡◌, ℕ, ◌≤◌, Bool, List, All, length, map, take, Ok, Err, Some, None, arith, length-append, is_ok, take-append-le, take_all, length-map, Term, term_of, uncounted, Table, AdviseFault, Candidate, Pass, Advised, judge, cost_of, candidates, advised, advice, first_judged_fault, IsPriced, HasKnownHolds, terms_in, suits}

-- the listed candidates come first
pub listed_first : (table : Table) (granule : ℕ) (listed : List Term) (splits : Bool) → take (length listed) (candidates table granule listed splits) ≡ listed
listed_first table granule listed splits = grind (arith, take_all, is_ok, take-append-le)

pub listed_within : (table : Table) (granule : ℕ) (listed : List Term) (splits : Bool) → length listed ≤ length (candidates table granule listed splits)
listed_within table granule listed splits = grind (arith, length-append, is_ok)

-- an advice, and a fault
module _ (table : Table) (granule : ℕ) (passes : List Pass) (terms : List Term) (splits : Bool) where
  pub advice_faulty : (fault : AdviseFault) → first_judged_fault (judge table granule) 0 (map uncounted terms) ≡ Some fault → advice table granule passes terms splits ≡ Err fault
  unfolding advice
  advice_faulty fault bad = grind arith

  pub advice_given : first_judged_fault (judge table granule) 0 (map uncounted terms) ≡ None → (all : List Term) → all ≡ candidates table granule (map uncounted terms) splits
      → (count : ℕ) → count ≡ length (map uncounted terms) → (given : Advised) → given ≡ advised (suits table) (cost_of table granule passes) (take count all) all
      → advice table granule passes terms splits ≡ Ok given
  unfolding advice
  advice_given good all is count listed_count given so = grind (arith, listed_first)

-- what is known of priced candidates
pub costs_known : (table : Table) (granule : ℕ) (passes : List Pass) (pool : List Candidate) → All (IsPriced table granule passes) pool
    → All (λ candidate. candidate.cost ≡ cost_of table granule passes (term_of candidate.expr)) pool
costs_known table granule passes pool priced = λ k d l. (priced k d l).cost_is

pub holds_known : (table : Table) (granule : ℕ) (passes : List Pass) (pool : List Candidate) → All (IsPriced table granule passes) pool → All (HasKnownHolds table) pool
holds_known table granule passes pool priced = λ k d l. (let is = priced k d l in record { holds_are = is.holds_are; each_leaf = is.each_leaf; holds = is.holds })

-- the listed are no more than all
pub pool_holds : (table : Table) (granule : ℕ) (listed : List Term) (splits : Bool) (pool : List Candidate) → terms_in pool ≡ candidates table granule listed splits → length listed ≤ length pool
pool_holds table granule listed splits pool is = grind (arith, listed_within, length-map)
