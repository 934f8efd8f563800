-- How a command ends, and its answer.
use Rattle.std.specs.Prelude.{◌≡◌, ℕ, List, [], Option, Result, Ok, Err, refl}
use Rattle.view_commands.specs.Imports.{sym, ap, ◌∙◌, arith, Wrote-nil, with_bytes-nil, Refused, Fronted, text_of, LeftOf, ◌>>=◌, Tested, CommandFault, Gives, GivesUp, StepFault}
use Rattle.view_commands.specs.Inner.Answers.{Answers}
use Rattle.command_checks.specs.declared.fault.StepFault.TheVariants as step

-- a refusal, with nothing written
pub refused : {K A : Type 0} (taken : K → Option (List ℕ)) (faults : K → ℕ) (old : K) (outcome : Tested (LeftOf A)) (fault : CommandFault) →
    outcome ≡ Err fault → Refused taken faults old old outcome (Err fault)
refused taken faults old outcome fault is = record { is = is; wrote = Wrote-nil taken faults old }

-- want of memory, with nothing written
pub starved : {K : Type 0} (taken : K → Option (List ℕ)) (faults : K → ℕ) (old : K) (text : List ℕ) → Fronted taken faults old old text
starved taken faults old text = record { count = 0; few = omega arith; bytes = sym (with_bytes-nil (taken old)); unfailed = refl }

-- a command that gives up with a test
pub gave_up : {S K A : Type 0} (Stands : S → A → Type 0) (taken : K → Option (List ℕ)) (faults : K → ℕ) (old : K)
    (outcome : Tested (LeftOf A)) (fault : StepFault) (result : Result S StepFault) → result ≡ Err fault → GivesUp outcome fault → Answers Stands taken faults old old outcome result
gave_up Stands taken faults old outcome (step.Command refusal) result is gives = rw is (refused taken faults old outcome refusal gives)
gave_up Stands taken faults old outcome step.NoMemory result is gives = rw is (starved taken faults old (text_of outcome))
gave_up Stands taken faults old outcome step.Source result is gives = absurd gives
gave_up Stands taken faults old outcome step.Sink result is gives = absurd gives

-- a command that writes nothing
pub answers_quiet : {S K A : Type 0} (Stands : S → A → Type 0) (held : S → A) (taken : K → Option (List ℕ)) (faults : K → ℕ) (old : K)
    (outcome : Tested (LeftOf A)) (result : Result S StepFault) → ((next : S) → Stands next (held next)) →
    Gives (λ next. record { held = held next; text = [] }) result outcome → Answers Stands taken faults old old outcome result
answers_quiet Stands held taken faults old outcome (Ok next) stands goes =
    record { left = record { held = held next; text = [] }; goes = goes; stands = stands next; wrote = Wrote-nil taken faults old }
answers_quiet Stands held taken faults old outcome (Err (step.Command refusal)) stands is = refused taken faults old outcome refusal is
answers_quiet Stands held taken faults old outcome (Err step.Source) stands gives = absurd gives
answers_quiet Stands held taken faults old outcome (Err step.Sink) stands gives = absurd gives
answers_quiet Stands held taken faults old outcome (Err step.NoMemory) stands gives = starved taken faults old (text_of outcome)

-- a refusal that is told is one that is given
pub tells_gives : {A : Type 0} (outcome : Tested A) (refusal told : CommandFault) → outcome ≡ Err refusal → told ≡ refusal → outcome ≡ Err told
tells_gives outcome refusal told is tells = is ∙ ap (λ (f : CommandFault). Err f) (sym tells)

-- a test that is passed, and what comes behind it gives up
pub goes_gives : {A B : Type 0} (first : Tested A) (x : A) (next : A → Tested B) (fault : StepFault) → first ≡ Ok x → GivesUp (next x) fault → GivesUp (first >>= next) fault
goes_gives first x next fault is gives = rw is gives
