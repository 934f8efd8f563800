-- What a stencil does, by its parts.
use Rattle.view_commands.proofs.Imports.{Bool, Result, refused_if, TooBig, ◌≡◌, ◌∙◌, ◌<◌, ◌≤◌, ⊎_elim, ℕ, zero, suc, ℤ, List, [], Option, Some, None, Ok, Err, refl, sym, ap, subst, arith, Span, TermText, PathStep, Stencil, Table, Fields, answer_of, after_stores, text_of_leaf, StoreFault, CommandFault, GivesUp, goes_then, StepFault, Tested, Changed, ChangeFault, Ends, row_of, store_fault, fit_stencil, room_beside, stencil_rounds, stencil_run, cases_lt, fault_text}
use Rattle.subviews.specs.Stencils.{refused_log, round, rounds_log, stenciled}
use Rattle.subviews.specs.declared.fault.StencilFault.{StencilFault}
use Rattle.view_commands.specs.Changes.{gone_or, rounds_left, stencil_left}
use Rattle.view_commands.specs.declared.change.ChangeFault.TheVariants as change
use Rattle.command_checks.specs.declared.fault.StepFault.TheVariants as step
use Rattle.view_commands.proofs.Changing.{has_rows, refused_with}

module _ (live : ℕ) (table : Table) (spans : List Span) (path : List PathStep) (texts : List TermText) (divisor rounds : ℕ) where
  pub unfit : (fault : CommandFault) → fit_stencil table spans path texts divisor rounds ≡ Err fault → stencil_run live table spans path texts divisor rounds ≡ Err fault
  unfolding stencil_run
  unfit fault is = rw is refl

  pub no_room : (stencil : Stencil) (fault : CommandFault) → fit_stencil table spans path texts divisor rounds ≡ Ok stencil → room_beside live table ≡ Err fault → stencil_run live table spans path texts divisor rounds ≡ Err fault
  unfolding stencil_run
  no_room stencil fault fit is = rw (fit, is) refl

  pub run_is : (stencil : Stencil) → fit_stencil table spans path texts divisor rounds ≡ Ok stencil → room_beside live table ≡ Ok tt
      → stencil_run live table spans path texts divisor rounds ≡ stencil_rounds table rounds stencil
  unfolding stencil_run
  run_is stencil fit room = goes_then _ _ _ fit ∙ goes_then _ _ _ room

-- the rounds that go, up to one that does not
all_gone : (table : Table) (stencil : Stencil) (done : ℕ) (new : List (List ℤ)) → stenciled table stencil done ≡ Ok new → rounds_left table stencil done ≡ new
all_gone table stencil done new goes = grind arith

none_behind : (table : Table) (stencil : Stencil) (new : List (List ℤ)) (fault : StencilFault) (done rounds : ℕ) → done < rounds → stenciled table stencil done ≡ Ok new → round (answer_of table) stencil new ≡ Err fault →
    stenciled table stencil rounds ≡ Err fault
none_behind table stencil new fault done zero less goes stops = absurd (omega (arith, less))
none_behind table stencil new fault done (suc rounds) less goes stops = ⊎_elim
    (λ (more : done < rounds). rw (none_behind table stencil new fault done rounds more goes stops) refl)
    (λ (over : rounds ≤ done). let last : done ≡ rounds = omega (arith, less, over) in rw (← last, goes, stops) refl)
    (cases_lt done rounds)

-- what is left is the table after these
pub rounds_before : (table : Table) (stencil : Stencil) (rounds : ℕ) (new : List (List ℤ)) (fault : StencilFault) (done : ℕ) → done < rounds → stenciled table stencil done ≡ Ok new →
    round (answer_of table) stencil new ≡ Err fault → rounds_left table stencil rounds ≡ new
rounds_before table stencil zero new fault done less goes stops = absurd (omega (arith, less))
rounds_before table stencil (suc rounds) new fault done less goes stops =
    ap (gone_or (rounds_left table stencil rounds)) (none_behind table stencil new fault done (suc rounds) less goes stops) ∙ ⊎_elim
    (λ (more : done < rounds). rounds_before table stencil rounds new fault done more goes stops)
    (λ (over : rounds ≤ done). let last : done ≡ rounds = omega (arith, less, over) in subst (λ (n : ℕ). rounds_left table stencil n ≡ new) last (all_gone table stencil done new goes))
    (cases_lt done rounds)

-- the rounds of a stencil that may be made, done or refused
pub rounds_done : (old new : Table) (rounds : ℕ) (stencil : Stencil) → stenciled old stencil rounds ≡ Ok new.rows → new ≡ after_stores old new.rows (rounds_log stencil rounds) →
    Changed (stencil_rounds old rounds stencil) (λ row. rounds_left old stencil rounds) old (Ok None) new
rounds_done old new rounds stencil stored same = rw stored (ap (λ (table : Table). Ok (record { held = table; text = [] })) (sym same))

ends_round : {A : Type 0} (fields : Fields) (outcome : Tested A) (row leaf : ℕ) (fault : StoreFault) → outcome ≡ Err (fault_text row (text_of_leaf fields leaf) fault) → Ends fields outcome (store_fault row leaf fault)
ends_round fields outcome row leaf fault is = grind arith

row_stored : (row leaf : ℕ) (fault : StoreFault) → row_of (store_fault row leaf fault) ≡ Some row
row_stored row leaf fault = grind arith

pub rounds_refused : (old new : Table) (rounds : ℕ) (stencil : Stencil) (fault : StencilFault) → stenciled old stencil rounds ≡ Err fault → ((done : ℕ) × (done < rounds) × (stenciled old stencil done ≡ Ok new.rows)
    × (round (answer_of old) stencil new.rows ≡ Err fault) × (new ≡ after_stores old new.rows (refused_log (answer_of old) stencil done new.rows))) →
    Changed (stencil_rounds old rounds stencil) (λ row. rounds_left old stencil rounds) old (Err (store_fault fault.row stencil.leaf fault.fault)) new
rounds_refused old new rounds stencil fault refused so_far = grind (arith, ends_round, row_stored, rounds_before, has_rows)

-- where no room is left all rows stay
room_fault : (test : Bool) (fault : CommandFault) → refused_if test TooBig ≡ Err fault → fault ≡ TooBig
room_fault test fault is = grind arith

pub no_room_left : (live : ℕ) (table : Table) (spans : List Span) (path : List PathStep) (texts : List TermText) (divisor rounds : ℕ) (stencil : Stencil) (fault : StepFault) (result : Result (Option ℤ) ChangeFault) →
    result ≡ Err (change.Other fault) → fit_stencil table spans path texts divisor rounds ≡ Ok stencil → GivesUp (room_beside live table) fault →
    Changed (stencil_run live table spans path texts divisor rounds) (λ row. stencil_left table rounds (fit_stencil table spans path texts divisor rounds)) table result table
no_room_left live table spans path texts divisor rounds stencil (step.Command f) result is fit gives =
    let same : f ≡ TooBig = room_fault _ f gives in
    refused_with _ _ table table (change.Other (step.Command f)) result is (no_room live table spans path texts divisor rounds stencil f fit gives) (rw same refl)
no_room_left live table spans path texts divisor rounds stencil step.NoMemory result is fit gives = refused_with _ _ table table (change.Other step.NoMemory) result is tt refl
no_room_left live table spans path texts divisor rounds stencil other result is fit gives = absurd gives
