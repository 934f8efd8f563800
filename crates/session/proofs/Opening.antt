-- A table that is opened beside others.
use Rattle.session.proofs.Imports.{◌≡◌, ℕ, List, Result, Ok, Err, refl, sym, ap, subst, ⊎_elim, IsRead, opened, FileFault, Table, bad_file, Entry, Gives, GivesUp, StepFault, file_fault, placed_table, with_room, Tested}
use Rattle.blob_file.specs.declared.fault.FileFault.TheVariants as cause
use Rattle.command_checks.specs.declared.fault.StepFault.TheVariants as step

-- a table that was read
pub placed_gives : {A : Type 0} (views : List (Entry Table)) (bytes : List ℕ) (table : Table) (view : A → Table) (result : Result A StepFault) → IsRead (opened bytes) (Ok table) → Gives view result (with_room views table)
    → Gives view result (placed_table views bytes)
placed_gives views bytes table view result read gives =
    let placed : placed_table views bytes ≡ with_room views table = rw read.1 (ap (with_room views) (sym read.2)) in
    subst (λ (outcome : Tested Table). Gives view result outcome) (sym placed) gives

-- or was not
refused : (views : List (Entry Table)) (bytes : List ℕ) (found : FileFault) (fault : StepFault) → fault ≡ step.Command (bad_file found) → (found ≡ cause.NoMemory → ⊥) → IsRead (opened bytes) (Err found) → GivesUp (placed_table views bytes) fault
refused views bytes found fault is some told = ⊎_elim
    (λ (none : found ≡ cause.NoMemory). absurd (some none))
    (λ (bad : opened bytes ≡ Err found). rw (is, bad) refl)
    told

pub placed_refused : (views : List (Entry Table)) (bytes : List ℕ) (found : FileFault) (fault : StepFault) → fault ≡ file_fault found → IsRead (opened bytes) (Err found) → GivesUp (placed_table views bytes) fault
placed_refused views bytes cause.NoMemory fault is told = rw is tt
placed_refused views bytes found fault is told = refused views bytes found fault is (λ e. cc) told
