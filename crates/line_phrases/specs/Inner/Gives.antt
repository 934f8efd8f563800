-- What it says of a reader that it gives what reading tokens gives.
use Rattle.std.specs.Prelude.{◌≡◌}
use Rattle.line_phrases.specs.Imports.{ℕ, ⊤, Result, Ok, Err}
use Rattle.line_phrases.specs.declared.fault.ReadError.{ReadError}
use Rattle.line_phrases.specs.declared.fault.ReadError.TheVariants as error

-- memory may run out at any time
abbrev pub Fails : {A : Type 0} → ReadError → Result A ℕ → Type 0
Fails error.NoMemory read = Unit {0}
Fails (error.Syntax left) read = read ≡ Err left

-- what was returned, seen by `view`, is what reading gives
abbrev pub Gives : {A B : Type 0} → (A → B) → Result A ReadError → Result B ℕ → Type 0
Gives view (Ok x) read = read ≡ Ok (view x)
Gives view (Err error) read = Fails error read

-- the tokens are at fault, and not the memory
abbrev pub IsSyntax : ReadError → Type 0
IsSyntax error.NoMemory = ⊥
IsSyntax (error.Syntax left) = ⊤
