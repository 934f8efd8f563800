-- A table that is saved.
use Rattle.view_commands.proofs.Imports.{◌≡◌, ◌∙◌, ◌≤◌, ℕ, Bool, true, false, nat_lt, length, List, Option, Err, refl, sym, ap, subst, arith, ⊎_elim, ◌||◌, cases_Bool, nat_tests, IsShort, record_text, view_text, header_of, blobs_of, Table, save, done_to, tells, LeftOf, ◌>>=◌, refused_if, TooBig, GivesUp, StepFault, Answers, IsLeft, left_with, Ok, telling, Tested, file_of}
use Rattle.view_commands.specs.ExitsLaws.{gave_up}
use Rattle.view_commands.proofs.Shown.{tells_left}

-- two texts, of which neither is too long, or one is
none_long : (a b : ℕ) → a ≤ 4096 → b ≤ 4096 → (nat_lt 4096 a || nat_lt 4096 b) ≡ false
none_long a b one other = grind (arith, nat_tests)

some_long : (a b : ℕ) → (a ≤ 4096 → b ≤ 4096 → ⊥) → (nat_lt 4096 a || nat_lt 4096 b) ≡ true
some_long a b long = ⊎_elim
    (λ (over : nat_lt 4096 a ≡ true). rw over refl)
    (λ (one : nat_lt 4096 a ≡ false). ⊎_elim
    (λ (over : nat_lt 4096 b ≡ true). rw (one, over) refl)
    (λ (other : nat_lt 4096 b ≡ false). absurd (long (at_most a one) (at_most b other)))
    (cases_Bool (nat_lt 4096 b)))
    (cases_Bool (nat_lt 4096 a))
  where
    at_most : (n : ℕ) → nat_lt 4096 n ≡ false → n ≤ 4096
    at_most n within = grind (arith, nat_tests)

-- the outcome, where the texts are too long and where they are not
abbrev saved : Table → Bool → Tested (LeftOf Table)
saved table long = done_to table (telling (λ shown. refused_if long TooBig >>= (λ short. Ok (tells (file_of (header_of table) (blobs_of table))))) table)

pub save_goes : (table : Table) → IsShort (header_of table) → done_to table (telling save table) ≡ Ok (left_with table (file_of (header_of table) (blobs_of table)))
unfolding save
save_goes table short =
    ap (saved table) (none_long (length (record_text (header_of table))) (length (view_text (header_of table))) short.of_record short.of_view)
    ∙ tells_left table (file_of (header_of table) (blobs_of table))

pub save_long : (table : Table) → (IsShort (header_of table) → ⊥) → done_to table (telling save table) ≡ Err TooBig
unfolding save
save_long table long = grind (arith, some_long)

-- a work that gives up and leaves its sink as it was
pub gave_up_idle : {K : Type 0} (taken : K → Option (List ℕ)) (faults : K → ℕ) (old new : K) (view : Table) (outcome : Tested (LeftOf Table)) (fault : StepFault) →
    new ≡ old → GivesUp outcome fault → Answers (IsLeft view) taken faults old new outcome (Err fault)
gave_up_idle {K} taken faults old new view outcome fault same gives =
    subst (λ (k : K). Answers (IsLeft view) taken faults old k outcome (Err fault)) (sym same) (gave_up (IsLeft view) taken faults old outcome fault (Err fault) refl gives)
