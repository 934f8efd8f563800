-- What holds of what an outcome goes to.
use Rattle.std.specs.Prelude.{◌≡◌}
use Rattle.equal_runs.specs.Imports.{Option, Some, None, Result, Ok, Err, refl, is_some, Tested, sure, ◌>>=◌, some_or, refused_if, CommandFault, arith}

-- where it goes, it goes to a thing of which this holds
pub data IfGoes {A E : Type 0} (P : A → Type 0) : Result A E → Type 0 where
  to : (x : A) → P x → IfGoes P (Ok x)
  refused : (fault : E) → IfGoes P (Err fault)

pub bind : {A B E : Type 0} (P : B → Type 0) (x : Result A E) (f : A → Result B E) → ((a : A) → x ≡ Ok a → IfGoes P (f a)) → IfGoes P (x >>= f)
bind P (Ok a) f each = each a refl
bind P (Err fault) f each = refused fault

-- behind what goes to a thing of which something holds
pub behind : {A B E : Type 0} (P : B → Type 0) (Q : A → Type 0) (x : Result A E) (f : A → Result B E) → IfGoes Q x → ((a : A) → Q a → IfGoes P (f a)) → IfGoes P (x >>= f)
behind P Q x f (to a q) each = each a q
behind P Q x f (refused fault) each = refused fault

-- what each thing is to which it goes
pub goes_each : {A E : Type 0} (P : A → Type 0) (x : Result A E) → ((a : A) → x ≡ Ok a → P a) → IfGoes P x
goes_each P (Ok a) each = to a (each a refl)
goes_each P (Err fault) each = refused fault

-- what reads no file
pub surely : {A : Type 0} (P : A → Type 0) (x : Tested A) → IfGoes P x → IfGoes P (sure x)
surely P x (to a p) = to a p
surely P x (refused fault) = refused _

pub gone : {A E : Type 0} (P : A → Type 0) (x : Result A E) (a : A) → IfGoes P x → x ≡ Ok a → P a
gone P x a h is = grind arith

-- what a used name stands for
pub known_found : {A : Type 0} (fault : CommandFault) (x : Option A) (a : A) → some_or fault x ≡ Ok a → x ≡ Some a
known_found fault x a is = grind arith

-- a name that is free stands for nothing
pub free_found : {A : Type 0} (fault : CommandFault) (x : Option A) → refused_if (is_some x) fault ≡ Ok tt → x ≡ None
free_found fault x is = grind arith
