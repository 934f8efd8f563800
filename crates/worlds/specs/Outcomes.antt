-- What becomes of a command, and the tests that refuse it.
use Rattle.std.specs.Prelude.{◌∷◌, if◌then◌else◌}
use Rattle.worlds.specs.Imports.{ℕ, Bool, List, [], Option, Some, None, Result, Ok, Err, is_some}
use Rattle.worlds.specs.Worlds.{World, Entry, found}
use Rattle.worlds.specs.declared.fault.CommandFault.{CommandFault}
use Rattle.worlds.specs.declared.fault.CommandFault.TheVariants.{Unknown, Taken}
use Rattle.worlds.specs.declared.fault.UnknownName.TheVariants.{Name}

-- one thing after another: after a refusal comes nothing
infixl 10 ◌>>=◌
abbrev pub ◌>>=◌ : {A B E : Type 0} → Result A E → (A → Result B E) → Result B E
(Ok x) >>= next = next x
(Err fault) >>= next = Err fault

-- what a command gives that reads no file, or the fault that refuses it
abbrev pub Tested : Type 0 → Type 0
Tested A = Result A CommandFault

-- why a line comes to nothing: it is refused by a named fault, or needs a file that can't be read
pub data Stop : Type 0 where
  Fault : CommandFault → Stop
  Unread : List ℕ → Stop

abbrev pub Outcome : Type 0 → Type 0
Outcome A = Result A Stop

-- what reads no file is not ended by one
abbrev pub sure : {A : Type 0} → Tested A → Outcome A
sure (Ok x) = Ok x
sure (Err fault) = Err (Fault fault)

-- the three ends by name
abbrev pub Goes : {A : Type 0} → A → Outcome A
Goes x = Ok x

abbrev pub Faults : {A : Type 0} → CommandFault → Outcome A
Faults fault = Err (Fault fault)

abbrev pub CannotRead : {A : Type 0} → List ℕ → Outcome A
CannotRead name = Err (Unread name)

-- what a command leaves, a world or one table, and the text that it writes
pub record LeftOf (A : Type 0) : Type 0 where
  pub held : A
  pub text : List ℕ

abbrev pub Left : Type 0
Left = LeftOf World

-- a command that writes nothing
abbrev pub quiet : World → Tested Left
quiet world = Ok (record { held = world; text = [] })

-- a command that changes nothing
abbrev pub shows : World → List ℕ → Tested Left
shows world text = Ok (record { held = world; text = text })

-- one outcome for each of a list, and all that they give; the first refusal is that of the whole
abbrev pub each : {A B : Type 0} → (A → Tested B) → List A → Tested (List B)
each outcome [] = Ok []
each outcome (x ∷ xs) = do
  y ← outcome x
  ys ← each outcome xs
  Ok (y ∷ ys)

-- refused where the test holds
abbrev pub refused_if : Bool → CommandFault → Tested (Unit {0})
refused_if test fault = if test then Err fault else Ok tt

-- refused where there is a cause
abbrev pub refused_by : {E F : Type 0} → (E → F) → Option E → Result (Unit {0}) F
refused_by fault None = Ok tt
refused_by fault (Some cause) = Err (fault cause)

-- refused by another's answer
abbrev pub ok_or : {A E F : Type 0} → (E → F) → Result A E → Result A F
ok_or fault (Ok x) = Ok x
ok_or fault (Err e) = Err (fault e)

-- refused where there is nothing
abbrev pub some_or : {A : Type 0} → CommandFault → Option A → Tested A
some_or fault (Some x) = Ok x
some_or fault None = Err fault

-- what a used name stands for
abbrev pub known : {A : Type 0} → List ℕ → List (Entry A) → Tested A
known name entries = some_or (Unknown (Name name)) (found name entries)

-- a defined name is not taken
abbrev pub free : {A : Type 0} → List ℕ → List (Entry A) → Tested (Unit {0})
free name entries = refused_if (is_some (found name entries)) (Taken name)
