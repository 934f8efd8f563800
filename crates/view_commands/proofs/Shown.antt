-- What is shown of a table, and written.
use Rattle.view_commands.proofs.Imports.{◌≡◌, ℕ, List, Option, Some, None, Result, Ok, Err, sym, ap, ◌∙◌, Wrote, Stopped, LeafCounts, HeatCounts, counts_text, heat_text, runs_text, texts_of, Table, owners_of, Tally, tallied-none, Did, tells, done_to, LeftOf, ◌>>=◌, some_or, counts, heat, layout, small, all_runs, NotCounted, StepFault, Answers, IsLeft, left_with, telling, left_as, Tested, refl}
use Rattle.command_checks.specs.declared.fault.StepFault.TheVariants as step

-- a work that gives something, and writes it as a text
pub then_wrote : {K : Type 0} (taken : K → Option (List ℕ)) (faults : K → ℕ) (old new : K) (view : Table) (outcome : Tested (LeftOf Table)) (text : List ℕ) →
    outcome ≡ Ok (left_with view text) → Wrote taken faults old new text → Did (IsLeft view) taken faults old new outcome tt
then_wrote taken faults old new view outcome text goes wrote = record { left = left_with view text; goes = goes; stands = refl; wrote = wrote }

-- or breaks off as it writes it
pub then_broke : {K : Type 0} (taken : K → Option (List ℕ)) (faults : K → ℕ) (old new : K) (view : Table) (outcome : Tested (LeftOf Table)) (left : LeftOf Table) (result : Result (Unit {0}) StepFault) →
    result ≡ Err step.Sink → outcome ≡ Ok left → Stopped taken faults old new left.text → Answers (IsLeft view) taken faults old new outcome result
then_broke taken faults old new view outcome left result is goes stopped = rw is (record { left = left; goes = goes; stopped = stopped })

-- a table that is told of stays as it is
pub tells_left : (table : Table) (text : List ℕ) → done_to table (Ok (left_as table (tells text))) ≡ Ok (left_with table text)
tells_left table text = ap (λ (tally : Tally). Ok (left_with (record table { tally = tally }) text)) (tallied-none (owners_of table) table.tally)

-- what is shown of a table
pub counts_goes : (table : Table) (numbers : LeafCounts) → Some numbers ≡ table.tally.counts → done_to table (telling counts table) ≡ Ok (left_with table (counts_text (texts_of table.fields) numbers))
unfolding counts
counts_goes table numbers is =
    ap (λ (x : Option LeafCounts). done_to table (telling (λ shown. some_or NotCounted x >>= (λ (n : LeafCounts). Ok (tells (counts_text (texts_of table.fields) n)))) table)) (sym is)
    ∙ tells_left table (counts_text (texts_of table.fields) numbers)

pub heat_goes : (table : Table) (numbers : HeatCounts) → Some numbers ≡ table.tally.heat → done_to table (telling heat table) ≡ Ok (left_with table (heat_text numbers))
unfolding heat
heat_goes table numbers is =
    ap (λ (x : Option HeatCounts). done_to table (telling (λ shown. some_or NotCounted x >>= (λ (n : HeatCounts). Ok (tells (heat_text n)))) table)) (sym is)
    ∙ tells_left table (heat_text numbers)

pub layout_goes : (table : Table) → small table ≡ Ok tt → done_to table (telling layout table) ≡ Ok (left_with table (runs_text (texts_of table.fields) (all_runs (owners_of table))))
unfolding layout
layout_goes table is = rw is (tells_left table (runs_text (texts_of table.fields) (all_runs (owners_of table))))

-- or is not, where it was not counted
pub counts_none : (table : Table) → None ≡ table.tally.counts → done_to table (telling counts table) ≡ Err NotCounted
unfolding counts
counts_none table is = rw (← is) refl

pub heat_none : (table : Table) → None ≡ table.tally.heat → done_to table (telling heat table) ≡ Err NotCounted
unfolding heat
heat_none table is = rw (← is) refl
