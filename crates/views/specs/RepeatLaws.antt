-- Lists that are gone through again and again, by steps of which any two may change places.
use Rattle.std.specs.Prelude.{◌≡◌, ℕ, zero, suc, ◌+◌, ◌*◌, List, [], ◌∷◌, ◌++◌, replicate, refl}
use Rattle.views.specs.Imports.{append_assoc, add-one, ap, sym, ◌∙◌, arith, flat_map, range_with_len, append-nil, fold-append, flat_map-cons, fold}
use Rattle.views.specs.TallyLaws.{range_more, logs_more}

-- a list so many times
abbrev pub copies : {A : Type 0} → List A → ℕ → List A
copies xs times = flat_map (λ time. xs) (range_with_len 0 times)

copies_suc : {A : Type 0} (xs : List A) (times : ℕ) → copies xs (suc times) ≡ copies xs times ++ xs
copies_suc xs times = ap (copies xs) (sym (add-one times)) ∙ logs_more (λ time. xs) times

pub copies_add : {A : Type 0} (xs : List A) (first more : ℕ) → copies xs first ++ copies xs more ≡ copies xs (first + more)
copies_add xs first zero = append-nil (copies xs first) ∙ ap (copies xs) (let all : first ≡ first + zero = omega arith in all)
copies_add xs first (suc more) =
    ap (λ (ys : List _). copies xs first ++ ys) (copies_suc xs more)
    ∙ sym (append_assoc (copies xs first) (copies xs more) xs)
    ∙ ap (λ (ys : List _). ys ++ xs) (copies_add xs first more)
    ∙ sym (copies_suc xs (first + more))
    ∙ ap (copies xs) (let both : suc (first + more) ≡ first + suc more = omega arith in both)

pub copies_copies : {A : Type 0} (xs : List A) (first times : ℕ) → copies (copies xs first) times ≡ copies xs (first * times)
copies_copies xs first zero = ap (copies xs) (let no_more : zero ≡ first * zero = omega arith in no_more)
copies_copies xs first (suc times) = grind (arith, copies_suc, copies_add, (copies_copies xs first times))

-- lists that may stand for each other, joined
pub fold-same : {S A : Type 0} (step : S → A → S) (one other : ℕ → List A) → ((s : S) (n : ℕ) → fold step s (one n) ≡ fold step s (other n))
    → (s : S) (ns : List ℕ) → fold step s (flat_map one ns) ≡ fold step s (flat_map other ns)
fold-same step one other same s [] = refl
fold-same step one other same s (n ∷ ns) = grind (arith, flat_map-cons, fold-append, flat_map, (fold-same step one other same (fold step s (other n)) ns))

-- one number more
pub fold_range_more : {S : Type 0} (step : S → ℕ → S) (s : S) (count : ℕ) → fold step s (range_with_len 0 (count + 1)) ≡ step (fold step s (range_with_len 0 count)) count
fold_range_more step s count = ap (fold step s) (range_more 0 count count (omega arith)) ∙ fold-append step s (range_with_len 0 count) (count ∷ [])

-- list by list
pub fold-flat_map : {S A : Type 0} (step : S → A → S) (list : ℕ → List A) (s : S) (ns : List ℕ) → fold step s (flat_map list ns) ≡ fold (λ t n. fold step t (list n)) s ns
fold-flat_map step list s [] = refl
fold-flat_map step list s (n ∷ ns) = grind (arith, flat_map-cons, fold-append, flat_map, (fold-flat_map step list (fold step s (list n)) ns))

-- so many steps of one item
abbrev pub many : {S A : Type 0} → (S → A → S) → ℕ → S → A → S
many step times s item = fold step s (replicate times item)

module _ {S A : Type 0} (step : S → A → S) (both : (s : S) (one other : A) → step (step s one) other ≡ step (step s other) one) where
  past_many : (times : ℕ) (s : S) (item other : A) → step (many step times s item) other ≡ many step times (step s other) item
  past_many zero s item other = refl
  past_many (suc times) s item other = past_many times (step s item) item other ∙ ap (λ (t : S). many step times t item) (both s item other)

  past_all : (times : ℕ) (xs : List A) (s : S) (other : A) → step (fold (many step times) s xs) other ≡ fold (many step times) (step s other) xs
  past_all times [] s other = refl
  past_all times (item ∷ xs) s other = grind (arith, past_many, (past_all times xs (many step times s item) other))

  once_more : (times : ℕ) (xs : List A) (s : S) → fold step (fold (many step times) s xs) xs ≡ fold (many step (suc times)) s xs
  once_more times [] s = refl
  once_more times (item ∷ xs) s = grind (arith, past_all, past_many, (once_more times xs (step (many step times s item) item)))

  none : (xs : List A) (s : S) → s ≡ fold (many step zero) s xs
  none [] s = refl
  none (item ∷ xs) s = none xs s

  -- all steps of each item at once
  pub fold-copies : (times : ℕ) (xs : List A) (s : S) → fold step s (copies xs times) ≡ fold (many step times) s xs
  fold-copies zero xs s = none xs s
  fold-copies (suc times) xs s = grind (arith, copies_suc, fold-append, once_more, (fold-copies times xs s))
