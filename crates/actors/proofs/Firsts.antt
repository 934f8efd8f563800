-- The first of a list that meets a test, and the first of a range.
use Rattle.actors.proofs.Imports.{◌≡◌, ℕ, suc, ◌+◌, ◌-◌, ◌<◌, Bool, true, false, List, [], ◌∷◌, ◌++◌, map, Option, Some, None, refl, ap, ◌∙◌, arith, option_map, if◌then◌else◌, range_with_len, cond-true, cond-false, first_of_all}

-- the first of a list made of another, and of two lists
pub first-map : {X Y : Type 0} (test : Y → Bool) (f : X → Y) (xs : List X) → first_of_all test (map f xs) ≡ option_map f (first_of_all (λ x. test (f x)) xs)
first-map test f [] = refl
first-map {X} {Y} test f (x ∷ xs) = ap (λ (w : Option Y). if test (f x) then Some (f x) else w) (first-map test f xs) ∙ by_test (test (f x)) where
  by_test : (t : Bool) → (if t then Some (f x) else option_map f (first_of_all (λ x. test (f x)) xs)) ≡ option_map f (if t then Some x else first_of_all (λ x. test (f x)) xs)
  by_test true = refl
  by_test false = refl

pub first-front : {X : Type 0} (test : X → Bool) (xs ys : List X) (x : X) → first_of_all test xs ≡ Some x → first_of_all test (xs ++ ys) ≡ Some x
first-front test [] ys x e = absurd (cc)
first-front {X} test (y ∷ xs) ys x e = by_test (test y) e (λ later. first-front test xs ys x later) where
  by_test : (t : Bool) → (if t then Some y else first_of_all test xs) ≡ Some x → (first_of_all test xs ≡ Some x → first_of_all test (xs ++ ys) ≡ Some x)
      → (if t then Some y else first_of_all test (xs ++ ys)) ≡ Some x
  by_test true here rest = here
  by_test false later rest = rest later

pub first-back : {X : Type 0} (test : X → Bool) (xs ys : List X) → first_of_all test xs ≡ None → first_of_all test (xs ++ ys) ≡ first_of_all test ys
first-back test [] ys e = refl
first-back {X} test (y ∷ xs) ys e = by_test (test y) e (λ later. first-back test xs ys later) where
  by_test : (t : Bool) → (if t then Some y else first_of_all test xs) ≡ None → (first_of_all test xs ≡ None → first_of_all test (xs ++ ys) ≡ first_of_all test ys)
      → (if t then Some y else first_of_all test (xs ++ ys)) ≡ first_of_all test ys
  by_test true none rest = absurd (cc)
  by_test false none rest = rest none

-- a range from a number on
pub range_at : (k n : ℕ) → k < n → range_with_len k (n - k) ≡ k ∷ range_with_len (k + 1) (n - (k + 1))
range_at k n low = (let more : n - k ≡ suc (n - (k + 1)) = omega arith in ap (range_with_len k) more)

-- a number that meets the test is the first, and one that does not is not
pub first_here : (test : ℕ → Bool) (k n : ℕ) → k < n → test k ≡ true → first_of_all test (range_with_len k (n - k)) ≡ Some k
first_here test k n low holds = ap (first_of_all test) (range_at k n low) ∙ cond-true (test k) (Some k) (first_of_all test (range_with_len (k + 1) (n - (k + 1)))) holds

pub first_later : (test : ℕ → Bool) (k n : ℕ) → k < n → test k ≡ false → first_of_all test (range_with_len k (n - k)) ≡ first_of_all test (range_with_len (k + 1) (n - (k + 1)))
first_later test k n low fails = ap (first_of_all test) (range_at k n low) ∙ cond-false (test k) (Some k) (first_of_all test (range_with_len (k + 1) (n - (k + 1)))) fails
