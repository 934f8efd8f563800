-- What holds of the value of each phrase, and of its tokens, asked at the ends of the grammar alone.
use Rattle.std.specs.Prelude.{◌≡◌, ℕ, zero, suc, true, false, List, [], ◌∷◌, ◌++◌, Some}
use Rattle.record_dim.specs.Std.{inl, inr, append-nil, append_assoc}
use Rattle.line_grammar.specs.Grammar.{Grammar, item, behind, joined, either, which, nothing, repeats, deep, Is}
use Rattle.line_grammar.specs.Phrases.{Chain}

-- `P` holds of each value, whatever the values of the parts are
abbrev pub Leaves : {T A : Type 0} → Grammar T A → (A → Type 0) → Type 0
Leaves {T} {A} (item value) P = (t : T) (v : A) → value t ≡ Some v → P v
Leaves (behind token one) P = Leaves one P
Leaves (joined {A} one next) P = (a : A) → Leaves (next a) P
Leaves (either one other) P = Leaves one P × Leaves other P
Leaves (which holds one other) P = Leaves one P × Leaves other P
Leaves (nothing value) P = P value
Leaves {A = A} (repeats step value) P = P value × ((a : A) → P a → Leaves (step a) P)
Leaves (deep of) P = (n : ℕ) → Leaves (of n) P

-- `Q` holds of tokens and value, where `Holds` does of the tokens; of a part it is known that it is a phrase of such tokens
abbrev pub Told : {T A : Type 0} → (List T → Type 0) → Grammar T A → (List T → A → Type 0) → Type 0
Told {T} {A} Holds (item value) Q = (t : T) (v : A) → value t ≡ Some v → Holds (t ∷ []) → Q (t ∷ []) v
Told Holds (behind token one) Q = Told Holds one (λ xs v. Q (token ∷ xs) v)
Told {T} Holds (joined {A} one next) Q = (a : A) (front : List T) → Is one front a → Holds front → Told Holds (next a) (λ xs v. Q (front ++ xs) v)
Told Holds (either one other) Q = Told Holds one Q × Told Holds other Q
Told Holds (which holds one other) Q = Told Holds one Q × Told Holds other Q
Told Holds (nothing value) Q = Q [] value
Told {T} {A} Holds (repeats step value) Q = Q [] value × ((a : A) (front : List T) → Q front a → Told Holds (step a) (λ xs v. Q (front ++ xs) v))
Told Holds (deep of) Q = (n : ℕ) → Told Holds (of n) Q

-- what holds of a list of tokens holds of its front and of its back
pub record Splits {T : Type 0} (Holds : List T → Type 0) : Type 0 where
  pub front : (xs ys : List T) → Holds (xs ++ ys) → Holds xs
  pub back : (xs ys : List T) → Holds (xs ++ ys) → Holds ys

-- the same, where each part has one list of tokens for its value, and `Q` speaks of these lists
abbrev pub Written : {T A : Type 0} → (List T → Type 0) → Grammar T A → (List T → A → Type 0) → Type 0
Written {T} {A} Holds (item value) Q = (t : T) (v : A) → value t ≡ Some v → Holds (t ∷ []) → Q (t ∷ []) v
Written Holds (behind token one) Q = Written Holds one (λ xs v. Q (token ∷ xs) v)
Written {T} Holds (joined {A} one next) Q = (print : A → List T) × ((front : List T) (a : A) → Is one front a → Holds front → print a ≡ front)
    × ((a : A) → Written Holds (next a) (λ xs v. Q (print a ++ xs) v))
Written Holds (either one other) Q = Written Holds one Q × Written Holds other Q
Written Holds (which holds one other) Q = Written Holds one Q × Written Holds other Q
Written Holds (nothing value) Q = Q [] value
Written {T} {A} Holds (repeats step value) Q = Q [] value × ((a : A) (front : List T) → Q front a → Written Holds (step a) (λ xs v. Q (front ++ xs) v))
Written Holds (deep of) Q = (n : ℕ) → Written Holds (of n) Q

chain_keeps : {T A : Type 0} (Step : A → List T → A → Type 0) (P : A → Type 0) → ((a : A) → P a → (xs : List T) (v : A) → Step a xs v → P v)
    → (n : ℕ) (a : A) (xs : List T) (v : A) → P a → Chain Step n a xs v → P v
chain_keeps Step P one zero a xs v p h = rw h.1 p
chain_keeps Step P one (suc n) a xs v p h = chain_keeps Step P one n h.first h.back v (one a p h.front h.first h.begins) h.ends

pub leaves : {T A : Type 0} (one : Grammar T A) (P : A → Type 0) → Leaves one P → (xs : List T) (v : A) → Is one xs v → P v
leaves (item value) P l xs v h = l h.0 v h.2
leaves (behind token one) P l [] v h = absurd h
leaves (behind token one) P l (t ∷ xs) v h = leaves one P l xs v h.1
leaves (joined one next) P l xs v h = leaves (next h.first) P (l h.first) h.back v h.ends
leaves (either one other) P l xs v (inl h) = leaves one P l.0 xs v h
leaves (either one other) P l xs v (inr h) = leaves other P l.1 xs v h
leaves (which true one other) P l xs v h = leaves one P l.0 xs v h
leaves (which false one other) P l xs v h = leaves other P l.1 xs v h
leaves (nothing value) P l xs v h = rw h.1 l
leaves (repeats step value) P l xs v h = chain_keeps (λ a. Is (step a)) P (λ a p us w i. leaves (step a) P (l.1 a p) us w i) h.0 value xs v l.0 h.1
leaves (deep of) P l xs v h = leaves (of h.0) P (l h.0) xs v h.1

chain_told : {T A : Type 0} {Holds : List T → Type 0} → Splits Holds → (Step : A → List T → A → Type 0) (Q : List T → A → Type 0)
    → ((a : A) (before : List T) → Q before a → (xs : List T) (v : A) → Step a xs v → Holds xs → Q (before ++ xs) v)
    → (n : ℕ) (a : A) (before xs : List T) (v : A) → Q before a → Chain Step n a xs v → Holds xs → Q (before ++ xs) v
chain_told s Step Q one zero a before xs v q h holds = rw (h.0, h.1, append-nil before) q
chain_told {Holds = Holds} s Step Q one (suc n) a before xs v q h holds =
    let all : Holds (h.front ++ h.back) = rw h.whole at holds in
    let kept = one a before q h.front h.first h.begins (s.front h.front h.back all) in
    rw (h.whole, ← append_assoc before h.front h.back) (chain_told s Step Q one n h.first (before ++ h.front) h.back v kept h.ends (s.back h.front h.back all))

pub told : {T A : Type 0} {Holds : List T → Type 0} → Splits Holds → (one : Grammar T A) (Q : List T → A → Type 0) → Told Holds one Q → (xs : List T) (v : A) → Is one xs v → Holds xs → Q xs v
told s (item value) Q l xs v h holds = rw h.1 (l h.0 v h.2 (rw h.1 at holds))
told s (behind token one) Q l [] v h holds = absurd h
told s (behind token one) Q l (t ∷ xs) v h holds = rw h.0 (told s one (λ us w. Q (token ∷ us) w) l xs v h.1 (s.back (t ∷ []) xs holds))
told {Holds = Holds} s (joined one next) Q l xs v h holds =
    let all : Holds (h.front ++ h.back) = rw h.whole at holds in
    rw h.whole (told s (next h.first) (λ us w. Q (h.front ++ us) w) (l h.first h.front h.begins (s.front h.front h.back all)) h.back v h.ends (s.back h.front h.back all))
told s (either one other) Q l xs v (inl h) holds = told s one Q l.0 xs v h holds
told s (either one other) Q l xs v (inr h) holds = told s other Q l.1 xs v h holds
told s (which true one other) Q l xs v h holds = told s one Q l.0 xs v h holds
told s (which false one other) Q l xs v h holds = told s other Q l.1 xs v h holds
told s (nothing value) Q l xs v h holds = rw (h.0, h.1) l
told s (repeats step value) Q l xs v h holds =
    chain_told s (λ a. Is (step a)) Q (λ a before q us w i holds. told s (step a) (λ ys z. Q (before ++ ys) z) (l.1 a before q) us w i holds) h.0 value [] xs v l.0 h.1 holds
told s (deep of) Q l xs v h holds = told s (of h.0) Q (l h.0) xs v h.1 holds

pub written : {T A : Type 0} {Holds : List T → Type 0} → Splits Holds → (one : Grammar T A) (Q : List T → A → Type 0) → Written Holds one Q → (xs : List T) (v : A) → Is one xs v → Holds xs → Q xs v
written s (item value) Q l xs v h holds = rw h.1 (l h.0 v h.2 (rw h.1 at holds))
written s (behind token one) Q l [] v h holds = absurd h
written s (behind token one) Q l (t ∷ xs) v h holds = rw h.0 (written s one (λ us w. Q (token ∷ us) w) l xs v h.1 (s.back (t ∷ []) xs holds))
written {Holds = Holds} s (joined one next) Q l xs v h holds =
    let all : Holds (h.front ++ h.back) = rw h.whole at holds in
    rw (h.whole, ← l.1 h.front h.first h.begins (s.front h.front h.back all))
    (written s (next h.first) (λ us w. Q (l.0 h.first ++ us) w) (l.2 h.first) h.back v h.ends (s.back h.front h.back all))
written s (either one other) Q l xs v (inl h) holds = written s one Q l.0 xs v h holds
written s (either one other) Q l xs v (inr h) holds = written s other Q l.1 xs v h holds
written s (which true one other) Q l xs v h holds = written s one Q l.0 xs v h holds
written s (which false one other) Q l xs v h holds = written s other Q l.1 xs v h holds
written s (nothing value) Q l xs v h holds = rw (h.0, h.1) l
written s (repeats step value) Q l xs v h holds =
    chain_told s (λ a. Is (step a)) Q (λ a before q us w i holds. written s (step a) (λ ys z. Q (before ++ ys) z) (l.1 a before q) us w i holds) h.0 value [] xs v l.0 h.1 holds
written s (deep of) Q l xs v h holds = written s (of h.0) Q (l h.0) xs v h.1 holds
