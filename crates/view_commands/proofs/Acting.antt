-- The parts of an update by actors, and what is done by it.
use Rattle.view_commands.proofs.Imports.{◌≡◌, ℕ, suc, ◌+◌, ◌/◌, ◌%◌, ◌^◌, ◌≤◌, Bool, true, false, ℤ, nat_le, List, [], ◌∷◌, length, get_or, map, Result, Ok, Err, refl, sym, ap, ◌∙◌, arith, IsErrAnd, not, sum_by, slice_set, filter, and_parts, leb-true, nat_tests, length-map, length-set, Run, started_run, after_turns, State, moved, turned, AreCuts, actor_of, are_cuts-are, Place, memory_of, written_by, team_start, job_of, fresh_of, Job, Micro, Registers, stored, loaded, next, entries, schedule_of, idle_with, run_by, shared_byte, Value, Assignment, image, bit_held, bytes_of, Setting, updated_of, Term, update_log, Table, owners_of, after_log, after_stores, reads_in, writes_in, reads_first, updated_by_actors, fit_cuts, shared, memory_text, bound_filter, bound_sets, each_once, leaves_of, Done, done_to, ◌>>=◌, refused_if, refused_by, small, Cuts, Turns, BadActors, TooBig, StepFault, left_with, Bindings, shared_out, acted, Tested, ◌*◌, nat_lt, Option, None}
use Rattle.actors.specs.ActorRuns.{without_counts}
use Rattle.command_checks.specs.declared.fault.StepFault.TheVariants as step
use Rattle.view_commands.proofs.Arms.{read_stored}

-- cuts that pass
of_fit : (test : Bool) → refused_if (not test) (BadActors Cuts) ≡ Ok tt → test ≡ true
of_fit test is = grind arith

pub cuts_fit : (cuts : List ℕ) (rows : ℕ) → refused_if (not (fit_cuts cuts rows)) (BadActors Cuts) ≡ Ok tt → AreCuts 0 cuts rows × (length cuts ≤ 63)
cuts_fit cuts rows is = grind (arith, and_parts, nat_le, of_fit, are_cuts-are, leb-true)

-- a table that is small
pub small_few : (table : Table) → small table ≡ Ok tt → sum_by length (owners_of table) ≤ 8 * 65536
small_few table is = of_test (nat_lt (8 * 65536) (sum_by length (owners_of table))) refl is where
  of_test : (test : Bool) → nat_lt (8 * 65536) (sum_by length (owners_of table)) ≡ test → refused_if test TooBig ≡ Ok tt → sum_by length (owners_of table) ≤ 8 * 65536
  of_test true e is = absurd (cc)
  of_test false e is = grind (arith, nat_tests)

-- no byte is shared
pub none_shared : (cause : Option Place) → refused_by shared cause ≡ Ok tt → cause ≡ None
none_shared cause is = grind arith

-- one thing after another, in two parts
in_parts : {A B C : Type 0} (x : Tested A) (f : A → Tested C) (first : A → Tested B) (rest : B → Tested C) → ((a : A) → f a ≡ (first a >>= rest)) → (x >>= f) ≡ ((x >>= first) >>= rest)
in_parts x f first rest same = grind arith

-- what comes behind each test, up to the values of the rows, and with them
module _ (table : Table) (cuts : List ℕ) (seed turns : ℕ) where
  abbrev apart : Tested (Unit {0})
  apart = refused_by shared (shared_byte (owners_of table) (actor_of cuts))

  abbrev few : Tested (Unit {0})
  few = refused_if (nat_lt (2 ^ 20) turns) (BadActors Turns)

  abbrev fit : Tested (Unit {0})
  fit = refused_if (not (fit_cuts cuts (length table.rows))) (BadActors Cuts)

  abbrev once : List Setting → Tested (Unit {0})
  once settings = each_once table.fields [] (leaves_of settings)

  module _ {B : Type 0} (last : Option (Term ℕ) → List Setting → Tested B) where
    abbrev behind_small : Option (Term ℕ) → List Setting → Tested B
    behind_small test settings = apart >>= (λ a. last test settings)

    abbrev behind_few : Option (Term ℕ) → List Setting → Tested B
    behind_few test settings = small table >>= (λ a. behind_small test settings)

    abbrev behind_fit : Option (Term ℕ) → List Setting → Tested B
    behind_fit test settings = few >>= (λ a. behind_few test settings)

    abbrev behind_once : Option (Term ℕ) → List Setting → Tested B
    behind_once test settings = fit >>= (λ a. behind_fit test settings)

    abbrev behind_sets : Option (Term ℕ) → List Setting → Tested B
    behind_sets test settings = once settings >>= (λ a. behind_once test settings)

  abbrev bound : Option (Term ℕ) → List Setting → Tested Bindings
  bound test settings = Ok (record { test = test; settings = settings })

  abbrev done : Bindings → Tested Done
  done bound = acted table bound cuts seed turns

  abbrev whole : Option (Term ℕ) → List Setting → Tested Done
  whole test settings = done (record { test = test; settings = settings })

  behind : (test : Option (Term ℕ)) (settings : List Setting) → behind_sets whole test settings ≡ (behind_sets bound test settings >>= done)
  behind test settings =
      in_parts (once settings) (λ a. behind_once whole test settings) (λ a. behind_once bound test settings) done (λ a. grind (arith, in_parts))

  pub by_parts : (filter : Option Value) (sets : List Assignment)
      → updated_by_actors table filter sets cuts seed turns ≡ (shared_out table filter sets cuts turns >>= done)
  unfolding updated_by_actors
  by_parts filter sets =
      let settings : Tested (List Setting) = bound_sets table.fields (length table.extents) sets in
      in_parts (bound_filter table.fields (length table.extents) filter) (λ test. settings >>= behind_sets whole test) (λ test. settings >>= behind_sets bound test) done (λ test.
      in_parts settings (behind_sets whole test) (behind_sets bound test) done (behind test))

-- what is done where the plain update meets no fault
pub acted_goes : (table : Table) (bound : Bindings) (cuts : List ℕ) (seed turns : ℕ) (rows : List (List ℤ)) → updated_of table bound.test bound.settings (length table.rows) ≡ Ok rows
    → done_to table (acted table bound cuts seed turns)
    ≡ Ok (left_with (after_stores table rows (reads_first (update_log table bound.test bound.settings (length table.rows)))) (memory_text (written_by table bound.test bound.settings cuts seed turns)))
acted_goes table bound cuts seed turns rows is = rw is refl

-- a write that failed
pub sink_is : {T : Type 0} (result : Result T StepFault) → IsErrAnd result (λ fault. fault ≡ step.Sink) → result ≡ Err step.Sink
sink_is result is = grind arith

-- one turn more of a schedule
pub turn_more : (run : Run) (actors n x : ℕ) → after_turns (after_turns run ((next x / 65536) % actors ∷ [])) (entries actors n (next x)) ≡ after_turns run (entries actors (suc n) x)
turn_more run actors n x = refl

-- a schedule leaves as many blobs
step_count : (job : Job) (step : Micro) (memory : List (List ℕ)) (registers : Registers) → length (stored job step memory registers) ≡ length memory
step_count job step memory registers = grind (arith, length-set, slice_set)

turn_count : (job : Job) (fresh : Registers) (a : ℕ) (state : State (List (List ℕ)) Micro Registers) → length (run_by job fresh (a ∷ []) state).memory ≡ length state.memory
turn_count job fresh a state = of_rest (get_or state.actors a (idle_with fresh)).rest where
  of_rest : (rest : List Micro) → length (moved (stored job) (loaded job) rest (get_or state.actors a (idle_with fresh)).registers a state).memory ≡ length state.memory
  of_rest [] = refl
  of_rest (step ∷ rest) = step_count job step state.memory (get_or state.actors a (idle_with fresh)).registers

pub blob_count : (job : Job) (fresh : Registers) (schedule : List ℕ) (state : State (List (List ℕ)) Micro Registers) → length (run_by job fresh schedule state).memory ≡ length state.memory
blob_count job fresh [] state = refl
blob_count job fresh (a ∷ schedule) state = blob_count job fresh schedule (run_by job fresh (a ∷ []) state) ∙ turn_count job fresh a state

-- the blobs of a table, as bytes and as bits
pub length-memory_of : (table : Table) → length (memory_of table) ≡ length (owners_of table)
length-memory_of table = length-map (image (owners_of table) table.rows) bytes_of ∙ length-map (owners_of table) (map (bit_held table.rows))

-- a run of a table after its turns
pub record HasTurned (table : Table) (bound : Bindings) (cuts : List ℕ) (seed turns : ℕ) (run : Run) : Type 0 where
  pub found : run.found ≡ without_counts table
  pub test : run.filter ≡ bound.test
  pub settings : run.sets ≡ bound.settings
  pub memory : run.state.memory ≡ written_by table bound.test bound.settings cuts seed turns

pub has_turned : (table : Table) (bound : Bindings) (cuts : List ℕ) (seed turns actors : ℕ) (first run : Run) → first ≡ started_run table bound.test bound.settings cuts → actors ≡ length cuts + 1
    → run ≡ after_turns first (schedule_of actors seed turns) → HasTurned table bound cuts seed turns run
has_turned table bound cuts seed turns actors first run is count turned =
    let whole : run ≡ after_turns (started_run table bound.test bound.settings cuts) (schedule_of (length cuts + 1) seed turns) =
    turned ∙ ap (λ (r : Run). after_turns r (schedule_of actors seed turns)) is ∙ ap (λ (n : ℕ). after_turns (started_run table bound.test bound.settings cuts) (schedule_of n seed turns)) count in
    grind arith

-- it has as many blobs as the table
pub turned_count : (table : Table) (bound : Bindings) (cuts : List ℕ) (seed turns : ℕ) (run : Run) → HasTurned table bound cuts seed turns run → length run.state.memory ≡ length (owners_of table)
turned_count table bound cuts seed turns run has =
    ap length has.memory
    ∙ blob_count (job_of table bound.test bound.settings) (fresh_of table) (schedule_of (length cuts + 1) seed turns) (team_start table bound.test bound.settings cuts)
    ∙ length-memory_of table

-- a table that is read, and then stored in as the plain update has it
pub stored_back : (table now view : Table) (bound : Bindings) (rows : List (List ℤ)) (test : Option (Term ℕ)) (settings : List Setting) → test ≡ bound.test → settings ≡ bound.settings
    → now ≡ after_log table (reads_in (update_log table bound.test bound.settings (length table.rows)))
    → updated_of now test settings (length now.rows) ≡ Ok rows → view ≡ after_stores now rows (writes_in (update_log now test settings (length now.rows)))
    → (updated_of table bound.test bound.settings (length table.rows) ≡ Ok rows) × (view ≡ after_stores table rows (reads_first (update_log table bound.test bound.settings (length table.rows))))
stored_back table now view bound rows test settings test_is settings_are read updated stored =
    let log = update_log table bound.test bound.settings (length table.rows) in
    let goes : updated_of table bound.test bound.settings (length table.rows) ≡ Ok rows = rw (test_is, settings_are, read) at updated in
    let left : view ≡ after_stores (after_log table (reads_in log)) rows (writes_in log) = rw (test_is, settings_are, read) at stored in
    (goes, left ∙ sym (read_stored table rows (reads_in log) (writes_in log)))
