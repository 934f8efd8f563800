-- What the answers of the constructors say of an expression.
use Rattle.map_checks.proofs.Imports.{◌≡◌, ◌⊎◌, Result, Err, IsErrAnd, IsErrOf, IfErr, NewMapping, MakeMap, TooBig, NoMemory, fault_of, arith}
use Rattle.places.specs.declared.mapping.NewMapping.TheVariants as new

too_big_is : (why : NewMapping) → fault_of why ≡ TooBig → why ≡ new.TooBig
too_big_is why e = grind arith

pub too_big_of : {T : Type 0} (answer : Result T MakeMap) (why : NewMapping) → IsErrAnd answer (λ e. e ≡ fault_of why) → answer ≡ Err TooBig
    → why ≡ new.TooBig
too_big_of {T} answer why h is = grind (arith, too_big_is)

-- where no width is refused
pub no_width : {T : Type 0} (answer : Result T MakeMap) (why : NewMapping) → IsErrAnd answer (λ e. e ≡ fault_of why)
    → (why ≡ new.Width) ⊎ ((why ≡ new.TooBig) ⊎ (why ≡ new.NoMemory)) → (why ≡ new.Width → ⊥) → IfErr answer (λ e. (e ≡ TooBig) ⊎ (e ≡ NoMemory))
no_width answer why h only never = grind arith

-- a fault that is handed on
pub handed_on : {T S : Type 0} (answer : Result T MakeMap) (why : MakeMap) → IsErrAnd answer (λ e. e ≡ why) → answer ≡ Err TooBig → IsErrOf {T = S} (Err why) TooBig
handed_on {T} {S} answer why h is = grind arith

-- the same for any fault
pub handed : {T S : Type 0} (answer : Result T MakeMap) (why fault : MakeMap) → IsErrAnd answer (λ e. e ≡ why) → answer ≡ Err fault → IsErrOf {T = S} (Err why) fault
handed {T} {S} answer why fault h is = grind arith
