-- Where a list of tokens stops being the beginning of a phrase.
use Rattle.std.specs.Prelude.{ℕ, ◌≡◌, List, [], ◌∷◌, ◌++◌, length}

-- the tokens begin a phrase
abbrev pub Begins : {T A : Type 0} → (List T → A → Type 0) → List T → Type 0
Begins {T = T} {A = A} Is xs = (more : List T) × (v : A) × Is (xs ++ more) v

-- the tokens with the next of those behind them begin none
abbrev pub Bars : {T A : Type 0} → (List T → A → Type 0) → List T → List T → Type 0
Bars Is front [] = Unit {0}
Bars Is front (token ∷ rest) = ¬ Begins Is (front ++ token ∷ [])

-- these tokens are no phrase, and so many of them are left behind the last with which they begin one
pub record IsStop {T A : Type 0} (Is : List T → A → Type 0) (tokens : List T) (left : ℕ) : Type 0 where
  pub front : List T
  pub rest : List T
  pub whole : tokens ≡ front ++ rest
  pub length_left : length rest ≡ left
  pub begins : Begins Is front
  pub bars : Bars Is front rest
  pub none : (v : A) → ¬ Is tokens v
