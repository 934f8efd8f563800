-- The words of a grammar: when a list of tokens is a phrase that has a value.
use Rattle.std.specs.Prelude.{ℕ, zero, suc, ◌≡◌, ◌⊎◌, Bool, true, false, List, [], ◌∷◌, ◌++◌, Option, Some}

-- one token, to which `value` gives the value
abbrev pub IsItem : {T A : Type 0} → (T → Option A) → List T → A → Type 0
IsItem {T = T} value xs v = (token : T) × (xs ≡ token ∷ []) × (value token ≡ Some v)

-- a phrase behind this token
abbrev pub Behind : {T A : Type 0} → T → (List T → A → Type 0) → List T → A → Type 0
Behind token Is [] v = ⊥
Behind token Is (first ∷ xs) v = (first ≡ token) × Is xs v

-- a phrase with a value, and behind it a phrase that may depend on this value
pub record Joined {T A B : Type 0} (Is : List T → A → Type 0) (Next : A → List T → B → Type 0) (xs : List T) (v : B) : Type 0 where
  pub first : A
  pub front : List T
  pub back : List T
  pub whole : xs ≡ front ++ back
  pub begins : Is front first
  pub ends : Next first back v

-- one phrase or the other
abbrev pub IsEither : {T A : Type 0} → (List T → A → Type 0) → (List T → A → Type 0) → List T → A → Type 0
IsEither Is IsOther xs v = Is xs v ⊎ IsOther xs v

-- one phrase where a test holds, and the other where it does not
abbrev pub WhichIs : {T A : Type 0} → Bool → (List T → A → Type 0) → (List T → A → Type 0) → List T → A → Type 0
WhichIs true Is IsOther = Is
WhichIs false Is IsOther = IsOther

-- no token, with this value
abbrev pub IsNothing : {T A : Type 0} → A → List T → A → Type 0
IsNothing value xs v = (xs ≡ []) × (v ≡ value)

-- so many steps, each from one value to the next
abbrev pub Chain : {T A : Type 0} → (A → List T → A → Type 0) → ℕ → A → List T → A → Type 0
Chain Step zero value = IsNothing value
Chain Step (suc n) value = Joined (Step value) (Chain Step n)

-- any number of steps
abbrev pub Repeats : {T A : Type 0} → (A → List T → A → Type 0) → A → List T → A → Type 0
Repeats Step value xs v = (n : ℕ) × Chain Step n value xs v

-- a phrase however deep its brackets nest, where `IsAt n` says what a phrase is in which they nest at most n deep
abbrev pub IsAny : {T A : Type 0} → (ℕ → List T → A → Type 0) → List T → A → Type 0
IsAny IsAt xs v = (n : ℕ) × IsAt n xs v
