-- Reading a phrase from the front of a list of tokens: its value and the tokens behind it, or how many tokens are left where
-- reading stops.
use Rattle.std.specs.Prelude.{ℕ, zero, suc, Bool, false, ◌||◌, if◌then◌else◌, List, [], ◌∷◌, length, Option, Some, None, is_some, Result, Ok, Err}
use Rattle.line_grammar.specs.Grammar.{Grammar, item, behind, joined, either, which, nothing, repeats, deep}

infixl 10 ◌>>=◌
abbrev pub ◌>>=◌ : {A B : Type 0} → Result A ℕ → (A → Result B ℕ) → Result B ℕ
(Ok x) >>= f = f x
(Err n) >>= f = Err n

-- whether there is a first token, and it passes
abbrev pub starts : {T : Type 0} → (T → Bool) → List T → Bool
starts test [] = false
starts test (token ∷ rest) = test token

-- the first token's value
abbrev pub item_or : {T A : Type 0} → Option A → ℕ → List T → Result (A × List T) ℕ
item_or None left rest = Err left
item_or (Some v) left rest = Ok (v, rest)

abbrev pub item_at : {T A : Type 0} → (T → Option A) → List T → Result (A × List T) ℕ
item_at value [] = Err 0
item_at value (token ∷ rest) = item_or (value token) (length (token ∷ rest)) rest

-- what stands behind a first token that passes
abbrev pub past : {T : Type 0} → (T → Bool) → List T → Result (List T) ℕ
past test [] = Err 0
past test (token ∷ rest) = if test token then Ok rest else Err (length (token ∷ rest))

-- a phrase behind such a token
abbrev pub behind_at : {T A : Type 0} → (T → Bool) → (List T → Result (A × List T) ℕ) → List T → Result (A × List T) ℕ
behind_at test read tokens = past test tokens >>= read

-- a phrase, and behind it one that may depend on its value
abbrev pub then_at : {T A B : Type 0} → (List T → Result (A × List T) ℕ) → (A → List T → Result (B × List T) ℕ) → List T → Result (B × List T) ℕ
then_at read next tokens = read tokens >>= λ x. next x.0 x.1

-- no token
abbrev pub give_at : {T A : Type 0} → A → List T → Result (A × List T) ℕ
give_at v tokens = Ok (v, tokens)

-- one phrase where the first token passes, and the other where it does not
abbrev pub either_at : {T A : Type 0} → (T → Bool) → (List T → Result (A × List T) ℕ) → (List T → Result (A × List T) ℕ) → List T → Result (A × List T) ℕ
either_at test read other tokens = if starts test tokens then read tokens else other tokens

-- one phrase or the other, by a truth value
abbrev pub which_at : {T A : Type 0} → Bool → (List T → Result (A × List T) ℕ) → (List T → Result (A × List T) ℕ) → List T → Result (A × List T) ℕ
which_at holds read other tokens = if holds then read tokens else other tokens

-- steps from one value to the next, as long as the first token passes, and at most so many
abbrev pub steps_within : {T A : Type 0} → ℕ → (T → Bool) → (A → List T → Result (A × List T) ℕ) → A → List T → Result (A × List T) ℕ
steps_within zero test step v tokens = Ok (v, tokens)
steps_within (suc n) test step v tokens =
    if starts test tokens then (step v tokens >>= λ x. steps_within n test step x.0 x.1) else Ok (v, tokens)

-- steps as long as the first token passes
unfoldable pub steps_at : {T A : Type 0} → (T → Bool) → (A → List T → Result (A × List T) ℕ) → A → List T → Result (A × List T) ℕ
steps_at test step v tokens = steps_within (length tokens) test step v tokens

-- whether a token begins a phrase of a grammar; `same` tells whether one token is another
abbrev pub first : {T A : Type 0} → (T → T → Bool) → Grammar T A → T → Bool
first same (item value) t = is_some (value t)
first same (behind token one) t = same token t
first same (joined one next) t = first same one t
first same (either one other) t = first same one t || first same other t
first same (which holds one other) t = if holds then first same one t else first same other t
first same (nothing value) t = false
first same (repeats step value) t = false
first same (deep of) t = false

-- reading a phrase of a grammar, an alternative by its first token
abbrev pub at : {T A : Type 0} → (T → T → Bool) → Grammar T A → List T → Result (A × List T) ℕ
at same (item value) = item_at value
at same (behind token one) = behind_at (same token) (at same one)
at same (joined one next) = then_at (at same one) (λ a. at same (next a))
at same (either one other) = either_at (first same one) (at same one) (at same other)
at same (which holds one other) = which_at holds (at same one) (at same other)
at same (nothing value) = give_at value
at same (repeats step value) = steps_at (first same (step value)) (λ a. at same (step a)) value
at same (deep of) = λ tokens. at same (of (length tokens)) tokens
