-- The counts by leaf after some accesses, which are the same however a table lies.
use Rattle.equal_runs.proofs.Imports.{◌≡◌, ℕ, Bool, true, List, Option, Some, None, option_map, refl, ⊤, if◌then◌else◌, fold, LeafCounts, no_counts, has_count, MapTerm, Owner, Access, Tally, counts_touched, tallied, no_tally, tallied-counts, arith}

-- some counts after accesses
abbrev counts_after : List Access → LeafCounts → LeafCounts
counts_after log counts = fold (λ (c : LeafCounts) (access : Access). counts_touched access c) counts log

-- equal counts, where both are there
abbrev pub SameCounts : Option LeafCounts → Option LeafCounts → Type 0
SameCounts (Some counts) (Some others) = others ≡ counts
SameCounts _ _ = ⊤

pub own_counts : (counts : Option LeafCounts) → SameCounts counts counts
own_counts counts = grind arith

same_after : (log : List Access) (counts others : Option LeafCounts) → SameCounts counts others → SameCounts (option_map (counts_after log) counts) (option_map (counts_after log) others)
same_after log counts others same = grind arith

-- after the same accesses to tables that lie so and so
pub tallied_alike : (layout changed : List (List Owner)) (tally other : Tally) (log : List Access) → SameCounts tally.counts other.counts
    → SameCounts (tallied layout tally log).counts (tallied changed other log).counts
tallied_alike layout changed tally other log same = grind (arith, tallied-counts, option_map, same_after)

-- after none
pub no_tally_alike : (term changed : MapTerm) (layout other : List (List Owner)) (leaves : ℕ) → SameCounts (no_tally term layout leaves).counts (no_tally changed other leaves).counts
no_tally_alike term changed layout other leaves = of_tests (has_count term) (has_count changed) where
  of_tests : (a b : Bool) → SameCounts (if a then Some (no_counts leaves) else None) (if b then Some (no_counts leaves) else None)
  of_tests true true = refl
  of_tests a b = tt
