-- What is told of a test of the model, and of one thing after another.
use Rattle.c_lines.proofs.Imports.{IfOk, ◌≡◌, ◌⊎◌, Bool, true, false, not, inl, inr, Result, Ok, Err, refl, ap, ◌∙◌, Tested, ◌>>=◌, Gives, StepFault, Answer, Tells, Refusal, NoMemory, told, answered}
use Rattle.command_checks.specs.declared.fault.StepFault.TheVariants as step

-- a refusal, or want of memory
abbrev pub Refuses : {A : Type 0} → Answer A → Refusal → Type 0
Refuses told refusal = (refusal ≡ NoMemory) ⊎ (told ≡ Err refusal)

-- what a test gives is told of its outcome
tells_answered : {A B : Type 0} (view : A → B) (given : Result A StepFault) (outcome : Tested B) → Gives view given outcome → Tells view (told outcome) (answered given)
tells_answered view (Ok x) outcome gives = rw gives refl
tells_answered view (Err (step.Command refusal)) outcome gives = inr (rw gives refl)
tells_answered view (Err step.NoMemory) outcome gives = inl refl
tells_answered view (Err other) outcome gives = absurd gives

pub tells_test : {A B : Type 0} (view : A → B) (given : Result A StepFault) (outcome : Tested B) (result : Answer A) → result ≡ answered given → Gives view given outcome → Tells view (told outcome) result
tells_test view given outcome result is gives = rw is (tells_answered view given outcome gives)

-- a test that is passed
pub goes_ok : {A B : Type 0} (view : A → B) (given : Result A StepFault) (outcome : Tested B) (x : A) → Ok x ≡ answered given → Gives view given outcome → outcome ≡ Ok (view x)
goes_ok view (Ok y) outcome x is gives = let same : y ≡ x = cc in gives ∙ ap (λ z. Ok (view z)) same
goes_ok view (Err fault) outcome x is gives = absurd (cc)

-- what holds of what a test gives
pub if_answered : {A : Type 0} (P : A → Type 0) (given : Result A StepFault) (result : Answer A) → result ≡ answered given → IfOk given P → IfOk result P
if_answered P (Ok x) result is holds = rw is holds
if_answered P (Err fault) result is holds = rw is tt

-- a refusal as an answer
pub tells_refused : {A B : Type 0} (view : A → B) (told_of : Answer B) (refusal : Refusal) (result : Answer A) → result ≡ Err refusal → Refuses told_of refusal → Tells view told_of result
tells_refused view told_of refusal result is refuses = rw is refuses

-- three things, of which the first two are one
pub then_then : {A B C E : Type 0} (first : Result A E) (next : A → Result B E) (last : B → Result C E) → (first >>= λ x. next x >>= last) ≡ ((first >>= next) >>= last)
then_then (Ok x) next last = refl
then_then (Err fault) next last = refl

pub ne_false : (result same : Bool) → result ≡ not same → result ≡ false → same ≡ true
ne_false result true is untrue = refl
ne_false result false is untrue = absurd (cc)
