-- Answers whose outcome is said otherwise.
use Rattle.std.specs.Prelude.{◌≡◌}
use Rattle.worlds.specs.Imports.{ℕ, Bool, List, Option, Result, ⊎_elim}
use Rattle.worlds.specs.Outcomes.{Outcome, LeftOf}
use Rattle.worlds.specs.Answers.{Ending, EndsBy, StepsTo}
use Rattle.std.proofs.Common.{arith}

ends_same : {K A : Type 0} (taken : K → Option (List ℕ)) (faults : K → ℕ) (old new : K) (whole outcome : Bool → Outcome (LeftOf A)) (read_failed : Type 0) (ending : Ending) →
    ((unread : Bool) → whole unread ≡ outcome unread) → EndsBy taken faults old new outcome read_failed ending → EndsBy taken faults old new whole read_failed ending
ends_same taken faults old new whole outcome read_failed ending same h9 = grind (arith, ⊎_elim)

pub steps_same : {S F K A : Type 0} (ending : F → Ending) (Stands : S → A → Type 0) (taken : K → Option (List ℕ)) (faults : K → ℕ) (old new : K)
    (whole outcome : Bool → Outcome (LeftOf A)) (read_failed : Type 0) (result : Result S F) → ((unread : Bool) → whole unread ≡ outcome unread)
    → StepsTo ending Stands taken faults old new outcome read_failed result → StepsTo ending Stands taken faults old new whole read_failed result
steps_same ending Stands taken faults old new whole outcome read_failed result same h11 = grind (arith, ends_same)
