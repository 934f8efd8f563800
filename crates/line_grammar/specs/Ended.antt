-- Reading a phrase that has to be all of the tokens.
use Rattle.std.specs.Prelude.{ℕ, List, [], ◌∷◌, length, Result, Ok, Err}
use Rattle.line_grammar.specs.Reading.{◌>>=◌}

-- a phrase with nothing behind it
abbrev pub ended : {T A : Type 0} → A → List T → Result (A × List T) ℕ
ended v [] = Ok (v, [])
ended v (token ∷ rest) = Err (length (token ∷ rest))

abbrev pub ended_at : {T A : Type 0} → (List T → Result (A × List T) ℕ) → List T → Result (A × List T) ℕ
ended_at read tokens = read tokens >>= λ x. ended x.0 x.1
