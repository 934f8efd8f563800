-- What an answer to a line says of its outcome, and of what was read and written.
use Rattle.std.specs.Prelude.{◌≡◌, ◌≤◌, ◌⊎◌}
use Rattle.worlds.specs.Imports.{ℕ, Bool, true, false, List, [], length, take, Option, IsSome, IsSomeAnd, Result, Ok, Err, Rose, File, with_bytes, Wrote, Stopped}
use Rattle.worlds.specs.Outcomes.{Outcome, Faults, CannotRead, LeftOf}
use Rattle.worlds.specs.declared.fault.CommandFault.{CommandFault}

-- the text of an outcome
abbrev pub text_of : {A E : Type 0} → Result (LeftOf A) E → List ℕ
text_of (Ok left) = left.text
text_of _ = []

-- what is left stands for that of the outcome, and its text was written
pub record Did {S K A E : Type 0} (Stands : S → A → Type 0) (taken : K → Option (List ℕ)) (faults : K → ℕ) (old new : K)
    (outcome : Result (LeftOf A) E) (next : S) : Type 0 where
  pub left : LeftOf A
  pub goes : outcome ≡ Ok left
  pub stands : Stands next left.held
  pub wrote : Wrote taken faults old new left.text

-- the outcome is this refusal, and nothing was written
pub record Refused {K A E : Type 0} (taken : K → Option (List ℕ)) (faults : K → ℕ) (old new : K) (outcome refusal : Result (LeftOf A) E) : Type 0 where
  pub is : outcome ≡ refusal
  pub wrote : Wrote taken faults old new []

-- where reading fails the outcome is that this file can't be read; a read failed, or it is the outcome in any case
pub record Unreadable {K A : Type 0} (taken : K → Option (List ℕ)) (faults : K → ℕ) (old new : K)
    (outcome : Bool → Outcome (LeftOf A)) (read_failed : Type 0) (name : List ℕ) : Type 0 where
  pub is : outcome true ≡ CannotRead name
  pub cause : read_failed ⊎ (outcome false ≡ CannotRead name)
  pub wrote : Wrote taken faults old new []

-- a write failed within the text of the outcome
pub record Broke {K A E : Type 0} (taken : K → Option (List ℕ)) (faults : K → ℕ) (old new : K) (outcome : Result (LeftOf A) E) : Type 0 where
  pub left : LeftOf A
  pub goes : outcome ≡ Ok left
  pub stopped : Stopped taken faults old new left.text

-- a front of the text was taken, and no write failed
pub record Fronted {K : Type 0} (taken : K → Option (List ℕ)) (faults : K → ℕ) (old new : K) (text : List ℕ) : Type 0 where
  pub count : ℕ
  pub few : count ≤ length text
  pub bytes : taken new ≡ with_bytes (taken old) (take count text)
  pub unfailed : faults new ≡ faults old

-- why nothing more is done after a line: it is refused, its file was not read, a write failed, or memory was wanting
pub data Ending : Type 0 where
  Refuses : CommandFault → Ending
  Unread : Option (List ℕ) → Ending
  Breaks : Ending
  Starves : Ending

-- what such an ending says of the outcome of the line, which is given by whether reading fails in it
abbrev pub EndsBy : {K A : Type 0} → (K → Option (List ℕ)) → (K → ℕ) → K → K → (Bool → Outcome (LeftOf A)) → Type 0 → Ending → Type 0
EndsBy taken faults old new outcome read_failed (Refuses fault) = Refused taken faults old new (outcome false) (Faults fault)
EndsBy taken faults old new outcome read_failed (Unread file) = IsSomeAnd file (λ name. Unreadable taken faults old new outcome read_failed name)
EndsBy taken faults old new outcome read_failed Breaks = Broke taken faults old new (outcome false)
EndsBy taken faults old new outcome read_failed Starves = Fronted taken faults old new (text_of (outcome false))

-- an answer to a line; `ending` says what its errors are
abbrev pub StepsTo : {S F K A : Type 0} → (F → Ending) → (S → A → Type 0) → (K → Option (List ℕ)) → (K → ℕ) → K → K →
    (Bool → Outcome (LeftOf A)) → Type 0 → Result S F → Type 0
StepsTo ending Stands taken faults old new outcome read_failed (Ok next) = Did Stands taken faults old new (outcome false) next
StepsTo ending Stands taken faults old new outcome read_failed (Err fault) = EndsBy taken faults old new outcome read_failed (ending fault)

-- which counts of faults may have risen at such an ending
abbrev pub EndCause : Option (List File) → ℕ → ℕ → ℕ → ℕ → Ending → Type 0
EndCause files shelf_old shelf_new sink_old sink_new (Refuses fault) = (shelf_new ≡ shelf_old) × (sink_new ≡ sink_old)
EndCause files shelf_old shelf_new sink_old sink_new (Unread file) =
    (Rose shelf_old shelf_new ⊎ IsSome files) × (shelf_old ≤ shelf_new) × (sink_new ≡ sink_old)
EndCause files shelf_old shelf_new sink_old sink_new Breaks = (shelf_new ≡ shelf_old) × Rose sink_old sink_new
EndCause files shelf_old shelf_new sink_old sink_new Starves = (shelf_old ≤ shelf_new) × (sink_new ≡ sink_old)

-- and at an answer
abbrev pub StepCause : {S F : Type 0} → (F → Ending) → Option (List File) → ℕ → ℕ → ℕ → ℕ → Result S F → Type 0
StepCause ending files shelf_old shelf_new sink_old sink_new (Ok next) = (shelf_new ≡ shelf_old) × (sink_new ≡ sink_old)
StepCause ending files shelf_old shelf_new sink_old sink_new (Err fault) = EndCause files shelf_old shelf_new sink_old sink_new (ending fault)
