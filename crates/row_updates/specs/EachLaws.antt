-- Things done in their turn, and what they give so far.
use Rattle.std.specs.Prelude.{◌≡◌, ℕ, zero, suc, ◌+◌, ◌-◌, ◌<◌, List, [], ◌∷◌, ◌++◌, length, get_or, Result, Ok, Err, refl}
use Rattle.row_updates.specs.Imports.{sym, ap, ◌∙◌, arith, range_with_len}
use Rattle.row_updates.specs.declared.fault.UpdateFault.{UpdateFault}
use Rattle.row_updates.specs.Rows.{each, ◌>>=◌}

-- the first thing gave something, and so did the others
pub record IsFirst {A : Type 0} (first : Result A UpdateFault) (rest : Result (List A) UpdateFault) (all : List A) : Type 0 where
  pub y : A
  pub ys : List A
  pub first_is : first ≡ Ok y
  pub rest_is : rest ≡ Ok ys
  pub all_are : all ≡ y ∷ ys

pub parted : {A : Type 0} (first : Result A UpdateFault) (rest : Result (List A) UpdateFault) (all : List A) → (first >>= (λ y. rest >>= (λ ys. Ok (y ∷ ys)))) ≡ Ok all → IsFirst first rest all
parted first rest all e = grind arith

-- one list of things after another
unit_right : {B : Type 0} (found : Result (List B) UpdateFault) → found ≡ (found >>= (λ ys. Ok ys))
unit_right found = grind arith

each-append : {A B : Type 0} (step : A → Result B UpdateFault) (xs ys : List A) → each step (xs ++ ys) ≡ (each step xs >>= (λ first. each step ys >>= (λ rest. Ok (first ++ rest))))
each-append step [] ys = unit_right (each step ys)
each-append {B} step (x ∷ xs) ys =
    ap (λ (found : Result (List B) UpdateFault). step x >>= (λ y. found >>= (λ all. Ok (y ∷ all)))) (each-append step xs ys) ∙ by_parts (step x) (each step xs) (each step ys) where
      by_parts : (one : Result B UpdateFault) (first rest : Result (List B) UpdateFault)
          → (one >>= (λ y. (first >>= (λ a. rest >>= (λ b. Ok (a ++ b)))) >>= (λ all. Ok (y ∷ all)))) ≡ ((one >>= (λ y. first >>= (λ a. Ok (y ∷ a)))) >>= (λ a. rest >>= (λ b. Ok (a ++ b))))
      by_parts (Ok y) (Ok a) (Ok b) = refl
      by_parts (Ok y) (Ok a) (Err fault) = refl
      by_parts (Ok y) (Err fault) rest = refl
      by_parts (Err fault) first rest = refl

-- one thing more, and the first fault behind what went well
pub each_push : {A B : Type 0} (step : A → Result B UpdateFault) (xs : List A) (x : A) (ys : List B) (y : B) → each step xs ≡ Ok ys → step x ≡ Ok y → each step (xs ++ x ∷ []) ≡ Ok (ys ++ y ∷ [])
each_push step xs x ys y so_far more = each-append step xs (x ∷ []) ∙ rw (so_far, more) refl

pub each_stop : {A B : Type 0} (step : A → Result B UpdateFault) (xs more : List A) (x : A) (ys : List B) (f : UpdateFault) → each step xs ≡ Ok ys → step x ≡ Err f → each step (xs ++ x ∷ more) ≡ Err f
each_stop step xs more x ys f so_far stop = each-append step xs (x ∷ more) ∙ rw (so_far, stop) refl

-- each thing gave what stands in its place, and as many as there were
pub each_at : {A B : Type 0} (step : A → Result B UpdateFault) (xs : List A) (ys : List B) (n : ℕ) (d : A) (e : B) → n < length xs → each step xs ≡ Ok ys → step (get_or xs n d) ≡ Ok (get_or ys n e)
each_at step [] ys n d e small all = absurd (omega (arith, small))
each_at step (x ∷ xs) ys zero d e small all = (let p = parted (step x) (each step xs) ys all in rw p.all_are p.first_is)
each_at step (x ∷ xs) ys (suc n) d e small all =
    (let p = parted (step x) (each step xs) ys all in rw p.all_are (each_at step xs p.ys n d e (omega (arith, small)) p.rest_is))

pub each_length : {A B : Type 0} (step : A → Result B UpdateFault) (xs : List A) (ys : List B) → each step xs ≡ Ok ys → length ys ≡ length xs
each_length step [] ys all = (let none : ys ≡ [] = cc in ap length none)
each_length step (x ∷ xs) ys all =
    (let p = parted (step x) (each step xs) ys all in ap length p.all_are ∙ ap suc (each_length step xs p.ys p.rest_is))

range-append : (a m n : ℕ) → range_with_len a (m + n) ≡ range_with_len a m ++ range_with_len (a + m) n
range-append a zero n = (let on : a + 0 ≡ a = omega arith in let none : 0 + n ≡ n = omega arith in ap (range_with_len a) none ∙ ap (λ (w : ℕ). range_with_len w n) (sym on))
range-append a (suc m) n =
    (let on : a + 1 + m ≡ a + suc m = omega arith in
    let more : suc m + n ≡ suc (m + n) = omega arith in
    ap (range_with_len a) more ∙ ap (λ (w : List ℕ). a ∷ w) (range-append (a + 1) m n ∙ ap (λ (w : ℕ). range_with_len (a + 1) m ++ range_with_len w n) on))

-- the same of the numbers from 0 on
pub rows_push : {B : Type 0} (step : ℕ → Result B UpdateFault) (n : ℕ) (ys : List B) (y : B) → each step (range_with_len 0 n) ≡ Ok ys → step n ≡ Ok y
    → each step (range_with_len 0 (n + 1)) ≡ Ok (ys ++ y ∷ [])
rows_push step n ys y so_far gives = grind (arith, range-append, range_with_len, each-append)

pub rows_stop : {B : Type 0} (step : ℕ → Result B UpdateFault) (all n : ℕ) (ys : List B) (f : UpdateFault) → n < all → each step (range_with_len 0 n) ≡ Ok ys → step n ≡ Err f
    → each step (range_with_len 0 all) ≡ Err f
rows_stop step all n ys f small so_far stop =
    let on : 0 + n ≡ n = omega arith in
    let whole : all ≡ n + suc (all - (n + 1)) = omega (arith, small) in grind (arith, range_with_len, range-append, each-append)
