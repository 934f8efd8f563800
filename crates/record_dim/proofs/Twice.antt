-- The search for a name that stands twice: what the set of the names so far and the names that are left say together.
use Rattle.record_dim.proofs.Imports.{◌≡◌, ℕ, Bool, true, false, cond, not, ◌||◌, nat_eq, List, [], ◌∷◌, refl, sym, ap, ◌∙◌, list_any, nat_cmp, is_at, pointwise, slice_cmp, texts_ties, has_twice, arith}

or_of_cond : (b x : Bool) → cond b true x ≡ (b || x)
or_of_cond b x = grind arith

shuffle : (a b c d : Bool) → ((a || b) || (c || d)) ≡ ((a || c) || (b || d))
shuffle a b c d = grind arith

-- what holds of some element by either test
any_either : {X : Type 0} (new p q : X → Bool) → ((x : X) → new x ≡ (p x || q x)) → (xs : List X) → list_any new xs ≡ (list_any p xs || list_any q xs)
any_either new p q same [] = refl
any_either new p q same (x ∷ xs) = rw (same x, any_either new p q same xs) (shuffle (p x) (q x) (list_any p xs) (list_any q xs))

regroup : (a b c : Bool) → ((a || b) || c) ≡ (b || (a || c))
regroup a b c = grind arith

-- one name more is in the set, and it was not there before
pub twice_step : (old new : List ℕ → Bool) (name : List ℕ) (names : List (List ℕ)) →
    ((q : List ℕ) → new q ≡ cond (is_at (slice_cmp nat_cmp name) q) true (old q)) → old name ≡ false →
    (list_any new names || has_twice names) ≡ (list_any old (name ∷ names) || has_twice (name ∷ names))
twice_step old new name names updates absent =
    let same : (q : List ℕ) → new q ≡ (pointwise nat_eq name q || old q) = λ q. updates q ∙ or_of_cond (is_at (slice_cmp nat_cmp name) q) (old q) ∙ ap (λ b. b || old q) (sym (texts_ties name q)) in
    rw (absent, any_either new (pointwise nat_eq name) old same names)
    (regroup (list_any (pointwise nat_eq name) names) (list_any old names) (has_twice names))

any_none : {X : Type 0} (p : X → Bool) → ((x : X) → p x ≡ false) → (xs : List X) → list_any p xs ≡ false
any_none p none [] = refl
any_none p none (x ∷ xs) = rw (none x) (any_none p none xs)

-- nothing is in the set
pub twice_start : (old : List ℕ → Bool) (names : List (List ℕ)) → ((q : List ℕ) → old q ≡ false) → (list_any old names || has_twice names) ≡ has_twice names
twice_start old names none = rw (any_none old none names) refl

pub absent_from : (present added : Bool) → added ≡ not present → added ≡ true → present ≡ false
absent_from present added e h = grind arith
