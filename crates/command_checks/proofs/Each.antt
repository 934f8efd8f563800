-- Outcomes of a list, one after another.
use Rattle.command_checks.proofs.Imports.{◌≡◌, ℕ, suc, ◌+◌, ◌<◌, List, [], ◌∷◌, ◌++◌, take, drop, get_or, length, refl, sym, ap, ◌∙◌, take-append-drop, take_more, drop-cons, ◌>>=◌, each, GivesUp, GivesUp-then, StepFault, Ok, Tested, arith}

-- a list at one of its places
pub parts_at : {X : Type 0} (xs : List X) (i : ℕ) (d : X) → i < length xs → take i xs ++ get_or xs i d ∷ drop (suc i) xs ≡ xs
parts_at xs i d small = ap (λ rest. take i xs ++ rest) (sym (drop-cons xs i d small)) ∙ take-append-drop i xs

-- what some give, where all go
record AllGo {B : Type 0} (first : Tested B) (rest : Tested (List B)) (all : List B) : Type 0 where
  one : B
  others : List B
  first_is : first ≡ Ok one
  rest_is : rest ≡ Ok others
  all_is : all ≡ one ∷ others

all_go : {B : Type 0} (first : Tested B) (rest : Tested (List B)) (all : List B) → (first >>= (λ y. rest >>= (λ ys. Ok (y ∷ ys)))) ≡ Ok all → AllGo first rest all
all_go first rest all e = grind arith

stopped : {B : Type 0} (first : Tested B) (rest : Tested (List B)) (one : B) (fault : StepFault) → first ≡ Ok one → GivesUp rest fault
    → GivesUp (first >>= (λ y. rest >>= (λ ys. Ok (y ∷ ys)))) fault
stopped first rest one fault a gives = rw a (GivesUp-then rest _ fault gives)

-- one more that goes
pub each_push : {A B : Type 0} (f : A → Tested B) (before : List A) (all : List B) (x : A) (y : B) → each f before ≡ Ok all → f x ≡ Ok y → each f (before ++ x ∷ []) ≡ Ok (all ++ y ∷ [])
each_push f [] all x y so_far is = let none : all ≡ [] = cc in rw (is, none) refl
each_push {A} {B} f (first ∷ before) all x y so_far is =
    let parts = all_go (f first) (each f before) all so_far in grind (arith, (each_push f before parts.others x y parts.rest_is is))

-- one that does not
pub each_stop : {A B : Type 0} (f : A → Tested B) (before : List A) (all : List B) (x : A) (more : List A) (fault : StepFault) → each f before ≡ Ok all → GivesUp (f x) fault
    → GivesUp (each f (before ++ x ∷ more)) fault
each_stop f [] all x more fault so_far gives = GivesUp-then (f x) _ fault gives
each_stop f (first ∷ before) all x more fault so_far gives =
    let parts = all_go (f first) (each f before) all so_far in
    stopped (f first) (each f (before ++ x ∷ more)) parts.one fault parts.first_is (each_stop f before parts.others x more fault parts.rest_is gives)

-- the same at a place of a list
pub each_more : {A B : Type 0} (f : A → Tested B) (xs : List A) (i : ℕ) (d : A) (all : List B) (y : B) → i < length xs → each f (take i xs) ≡ Ok all → f (get_or xs i d) ≡ Ok y
    → each f (take (i + 1) xs) ≡ Ok (all ++ y ∷ [])
each_more f xs i d all y small so_far is = ap (each f) (take_more xs i d small) ∙ each_push f (take i xs) all (get_or xs i d) y so_far is

pub each_ends : {A B : Type 0} (f : A → Tested B) (xs : List A) (i : ℕ) (d : A) (all : List B) (fault : StepFault) → i < length xs → each f (take i xs) ≡ Ok all → GivesUp (f (get_or xs i d)) fault
    → GivesUp (each f xs) fault
each_ends f xs i d all fault small so_far gives =
    rw (← parts_at xs i d small) (each_stop f (take i xs) all (get_or xs i d) (drop (suc i) xs) fault so_far gives)
