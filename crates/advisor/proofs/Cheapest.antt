-- The cheapest candidate, one after another, and that it is the best.
use Rattle.advisor.proofs.Imports.{◌≡◌, ℕ, suc, ◌<◌, ◌≤◌, Bool, true, false, List, [], ◌∷◌, All, length, map, get_or, Option, Some, None, refl, sym, ap, ◌∙◌, arith, ◌&&◌, ◌||◌, not, nat_le, if◌then◌else◌, slice_get, then_some, find, list_all, position_or_len, true≢false, and_from, le-leb, lt-leb, length-map, get_or-map, get_or_default, slice_get-get_or, slice_get_past, map-map, find_at, list_all_at, position_or_len_is, list_all-from_AllPass, Term, Named, term_of, Candidate, is_best, Advised, costs_in, cost_at, is_marked, AreMarked, IsLeast, IsCheapest, terms_in, term_at}

-- images by functions that agree on each item
pub same_images : {X Y : Type 0} (f g : X → Y) (xs : List X) → All (λ x. f x ≡ g x) xs → map f xs ≡ map g xs
same_images f g [] same = refl
same_images f g (x ∷ xs) same = rw (same 0 x (omega arith), same_images f g xs (λ k d l. same (suc k) d (omega (arith, l)))) refl

dearer : (mark : Bool) (a b : ℕ) → mark ≡ true → b < a → (not mark || nat_le a b) ≡ false
dearer mark a b is lt = grind (arith, lt-leb, true≢false)

undercut : (mark : Bool) (test : Term → Bool) (all : List Term) → (mark ≡ true → list_all test all ≡ false) → (mark && list_all test all) ≡ false
undercut mark test all fails = grind arith

-- what is told of the best
abbrev told : ℕ → Term → Option (ℕ × Term)
told cost term = Some (cost, term)

then_if : (mark : Bool) (cost : ℕ) → then_some mark cost ≡ (if mark then Some cost else None)
then_if mark cost = grind arith

by_mark : (mark : Bool) (a b : ℕ) → (mark ≡ true → a ≤ b) → (not mark || nat_le a b) ≡ true
by_mark mark a b le = grind (arith, le-leb)

-- marks and costs of candidates are those of their expressions
module _ (suit : Term → Bool) (price : Term → ℕ) (pool : List Candidate) (marks : List Bool) (so : AreMarked suit price pool marks) where
  pub suits_at : (k : ℕ) → k < length pool → is_marked marks k ≡ suit (term_at (terms_in pool) k)
  suits_at k l =
      let inside : k < length (terms_in pool) = omega (arith, l, length-map pool (λ (c : Candidate). term_of c.expr)) in
      ap (λ (ms : List Bool). get_or ms k false) so.marks_are
      ∙ ap (λ (ms : List Bool). get_or ms k false) (sym (map-map suit (λ (c : Candidate). term_of c.expr) pool))
      ∙ get_or-map suit (terms_in pool) k (Named []) false inside

  pub prices_are : costs_in pool ≡ map price (terms_in pool)
  prices_are = same_images (λ c. c.cost) (λ c. price (term_of c.expr)) pool so.costs_are ∙ sym (map-map price (λ (c : Candidate). term_of c.expr) pool)

  pub price_at : (k : ℕ) → k < length pool → cost_at (costs_in pool) k ≡ price (term_at (terms_in pool) k)
  price_at k l = grind (arith, length-map, prices_are, get_or-map)

  -- the cheapest one is best
  module _ (at : ℕ) (it : IsLeast (costs_in pool) marks (length pool) at) where
    bears_each : (k : ℕ) (d : Term) → k < length (terms_in pool) → (not (suit (get_or (terms_in pool) k d)) || nat_le (price (term_at (terms_in pool) at)) (price (get_or (terms_in pool) k d))) ≡ true
    bears_each k d l =
        let small : k < length pool = omega (arith, l, length-map pool (λ (c : Candidate). term_of c.expr)) in
        ap (λ (t : Term). not (suit t) || nat_le (price (term_at (terms_in pool) at)) (price t)) (get_or_default (terms_in pool) k d (Named []) l)
        ∙ by_mark (suit (term_at (terms_in pool) k)) (price (term_at (terms_in pool) at)) (price (term_at (terms_in pool) k))
        (λ suits. omega (arith, sym (price_at at it.inside), price_at k small, it.least k small (suits_at k small ∙ suits)))

    pub best_here : is_best suit price (terms_in pool) (term_at (terms_in pool) at) ≡ true
    best_here = grind (arith, and_from, suits_at, list_all-from_AllPass, nat_le, bears_each)

    pub none_before : (k : ℕ) → k < at → is_best suit price (terms_in pool) (term_at (terms_in pool) k) ≡ false
    none_before k l =
        let inside : at < length (terms_in pool) = omega (arith, it.inside, length-map pool (λ (c : Candidate). term_of c.expr)) in
        undercut (suit (term_at (terms_in pool) k)) (λ other. not (suit other) || nat_le (price (term_at (terms_in pool) k)) (price other)) (terms_in pool)
        (λ suits. list_all_at (λ other. not (suit other) || nat_le (price (term_at (terms_in pool) k)) (price other)) (terms_in pool) at (Named []) inside
        (dearer (suit (term_at (terms_in pool) at)) (price (term_at (terms_in pool) k)) (price (term_at (terms_in pool) at)) (sym (suits_at at it.inside) ∙ it.marked)
        (omega (arith, price_at at it.inside, price_at k (omega (arith, l, it.inside)), it.first k l (suits_at k (omega (arith, l, it.inside)) ∙ suits)))))

    pub found : find (is_best suit price (terms_in pool)) (terms_in pool) ≡ Some (term_at (terms_in pool) at)
    found = grind (arith, length-map, position_or_len, position_or_len_is, none_before, best_here, find_at, slice_get, slice_get-get_or)

  -- where none is marked there is no best
  pub none_found : IsCheapest (costs_in pool) marks (length pool) None → find (is_best suit price (terms_in pool)) (terms_in pool) ≡ None
  none_found unmarked =
      let count = length-map pool (λ (c : Candidate). term_of c.expr) in
      let test = is_best suit price (terms_in pool) in
      let place : position_or_len test (terms_in pool) ≡ length (terms_in pool) =
      position_or_len_is test (terms_in pool) (length (terms_in pool)) (Named []) (omega arith)
      (λ k l. (let small : k < length pool = omega (arith, l, count) in undercut (suit (term_at (terms_in pool) k)) _ (terms_in pool) (λ suits. absurd (true≢false (sym (suits_at k small ∙ suits) ∙ unmarked k small)))))
      (λ l. absurd (omega (arith, l))) in
      find_at test (terms_in pool) ∙ ap (λ (k : ℕ). slice_get (terms_in pool) k) place ∙ slice_get_past (terms_in pool) (length (terms_in pool)) (omega arith)

  -- what is listed of a candidate
  pub shown : (at : ℕ) (d : Candidate) → at < length pool
      → then_some (is_marked marks at) (get_or pool at d).cost ≡ (if suit (term_at (terms_in pool) at) then Some (price (term_at (terms_in pool) at)) else None)
  shown at d l = grind (arith, get_or-map, price_at, then_some, suits_at, then_if)

  -- what is told of the chosen one
  pub chosen_is : (at : ℕ) (candidate : Candidate) (cost : ℕ) (term : Term) → at < length pool → candidate ≡ get_or pool at candidate → cost ≡ candidate.cost → term ≡ term_of candidate.expr
      → told cost term ≡ told (price (term_at (terms_in pool) at)) (term_at (terms_in pool) at)
  chosen_is at candidate cost term l is one two = grind (arith, get_or-map, price_at)

-- an advice
abbrev pub given : List (Option ℕ) → Option (ℕ × Term) → Advised
given costs best = record { costs = costs; best = best }

pub same_advice : {costs others : List (Option ℕ)} {best other : Option (ℕ × Term)} → costs ≡ others → best ≡ other → given costs best ≡ given others other
same_advice {costs} {others} {best} {other} e f = ap (λ (cs : List (Option ℕ)). given cs best) e ∙ ap (λ (b : Option (ℕ × Term)). given others b) f
