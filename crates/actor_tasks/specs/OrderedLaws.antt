-- What a test picks of an ordered list: its first item, and those behind it.
use Rattle.std.proofs.Common.{◌≡◌, ℕ, zero, suc, ◌<◌, length, inl, inr, Bool, true, false, List, [], ◌∷◌, ◌++◌, filter, get_or, All, refl, sym, ap, ◌∙◌, ⊎_elim}
use Rattle.std.specs.Prelude.{◌⊎◌, ◌&&◌, if◌then◌else◌}
use Rattle.actor_tasks.specs.Imports.{cond-true, cond-false, and_right, false_from_ne_true, All-head, All-tail, All-append, All-contains, Contains, arith}

-- tests that agree on each item pick the same
pub same_filter : {X : Type 0} (one two : X → Bool) (xs : List X) → All (λ x. one x ≡ two x) xs → filter one xs ≡ filter two xs
same_filter one two [] all = refl
same_filter one two (x ∷ xs) all =
    ap (λ (t : Bool). if t then x ∷ filter one xs else filter one xs) (All-head (λ x. one x ≡ two x) x xs all)
    ∙ ap (λ rest. if two x then x ∷ rest else rest) (same_filter one two xs (All-tail (λ x. one x ≡ two x) x xs all))

and_true : (a b : Bool) → b ≡ true → a ≡ (a && b)
and_true a b e = grind arith

-- an item of a list is the first, or one of the others
first_or_later : {X : Type 0} (x y : X) (ys : List X) → Contains (y ∷ ys) x → (y ≡ x) ⊎ Contains ys x
first_or_later x y ys there = by there.0 there.1 there.2 where
  by : (k : ℕ) → k < length (y ∷ ys) → get_or (y ∷ ys) k x ≡ x → (y ≡ x) ⊎ Contains ys x
  by zero low is = inl is
  by (suc k) low is = inr (k, omega (arith, low), is)

module _ {X : Type 0} (before : X → X → Bool) where
  -- each item stands before all behind it
  abbrev pub IsOrdered : List X → Type 0
  IsOrdered [] = Unit {0}
  IsOrdered (x ∷ xs) = All (λ y. before x y ≡ true) xs × IsOrdered xs

  -- one ordered list behind another
  pub ordered-append : (xs ys : List X) → IsOrdered xs → IsOrdered ys → All (λ x. All (λ y. before x y ≡ true) ys) xs → IsOrdered (xs ++ ys)
  ordered-append [] ys first second across = second
  ordered-append (x ∷ xs) ys first second across = (
    All-append (λ y. before x y ≡ true) xs ys first.0 (All-head (λ x. All (λ y. before x y ≡ true) ys) x xs across),
    ordered-append xs ys first.1 second (All-tail (λ x. All (λ y. before x y ≡ true) ys) x xs across),
  )

  module _ (irreflexive : (a : X) → before a a ≡ true → ⊥) (asymmetric : (a b : X) → before a b ≡ true → before b a ≡ true → ⊥) where
    -- the first that meets the test, and the others
    pub split_first : (test : X → Bool) (xs : List X) (x : X) → IsOrdered xs → Contains xs x → test x ≡ true → ((y : X) → test y ≡ true → (y ≡ x) ⊎ (before x y ≡ true))
        → filter test xs ≡ x ∷ filter (λ y. test y && before x y) xs
    split_first test [] x ordered there meets least = absurd (omega (arith, there.1))
    split_first test (y ∷ ys) x ordered there meets least = ⊎_elim here (behind (λ rest. split_first test ys x ordered.1 rest meets least)) (first_or_later x y ys there) where
      here : y ≡ x → filter test (y ∷ ys) ≡ x ∷ filter (λ z. test z && before x z) (y ∷ ys)
      here e =
          let picked : filter test (y ∷ ys) ≡ y ∷ filter test ys = cond-true (test y) (y ∷ filter test ys) (filter test ys) (ap test e ∙ meets) in
          let left : filter (λ z. test z && before x z) (y ∷ ys) ≡ filter (λ z. test z && before x z) ys =
          cond-false (test y && before x y) (y ∷ filter (λ z. test z && before x z) ys) (filter (λ z. test z && before x z) ys)
          (and_right (test y) (before x y) (false_from_ne_true (before x y) (λ b. irreflexive x (ap (before x) (sym e) ∙ b)))) in
          let same : filter test ys ≡ filter (λ z. test z && before x z) ys =
          same_filter test (λ z. test z && before x z) ys
          (λ k d inside. and_true (test (get_or ys k d)) (before x (get_or ys k d)) (ap (λ (w : X). before w (get_or ys k d)) (sym e) ∙ ordered.0 k d inside)) in
          picked ∙ ap (λ (w : X). w ∷ filter test ys) e ∙ ap (λ (rest : List X). x ∷ rest) (same ∙ sym left)

      behind : (Contains ys x → filter test ys ≡ x ∷ filter (λ z. test z && before x z) ys) → Contains ys x → filter test (y ∷ ys) ≡ x ∷ filter (λ z. test z && before x z) (y ∷ ys)
      behind IH rest =
          let first : before y x ≡ true = All-contains (λ z. before y z ≡ true) ys x ordered.0 rest in
          let fails : test y ≡ false =
          false_from_ne_true (test y) (λ m. ⊎_elim (λ (e : y ≡ x). irreflexive x (ap (λ (w : X). before w x) (sym e) ∙ first)) (λ (b : before x y ≡ true). asymmetric x y b first) (least y m)) in
          let left : filter (λ z. test z && before x z) (y ∷ ys) ≡ filter (λ z. test z && before x z) ys =
          cond-false (test y && before x y) (y ∷ filter (λ z. test z && before x z) ys) (filter (λ z. test z && before x z) ys) (ap (λ (t : Bool). t && before x y) fails) in
          (cond-false (test y) (y ∷ filter test ys) (filter test ys) fails) ∙ IH rest ∙ ap (λ (r : List X). x ∷ r) (sym left)
