-- Tables of names, and lists that grow at their end.
use Rattle.command_checks.proofs.Imports.{◌≡◌, ℕ, ◌+◌, Bool, true, false, cond, List, [], ◌∷◌, ◌++◌, length, Option, Some, None, refl, subst, arith, ⊎_elim, cases_Bool, BTreeMap, Updates, slice_cmp, bytes_decides, texts_ties, position_from, option_or, nat_cmp, Entry, same_name, place_in, IsIndex}

-- the last element is looked at last
position_behind : {K : Type 0} (test : K → Bool) (low : ℕ) (xs : List K) (x : K) →
    position_from test low (xs ++ x ∷ []) ≡ option_or (position_from test low xs) (cond (test x) (Some (low + length xs)) None)
position_behind test low [] x = grind arith
position_behind test low (y ∷ ys) x = ⊎_elim
    (λ (found : test y ≡ true). rw found refl)
    (λ (other : test y ≡ false). grind (arith, option_or, position_from, (position_behind test (low + 1) ys x)))
    (cases_Bool (test y))

-- the table of one entry more
pub indexed_behind : {E A : Type 0} (entry_of : E → Entry A) (entries : List E) (entry : E) (places next : BTreeMap (List ℕ) ℕ) → IsIndex entry_of entries places →
    ((other : List ℕ) → place_in next other ≡ option_or (place_in places other) (cond (same_name (entry_of entry).name other) (Some (length entries)) None)) →
    IsIndex entry_of (entries ++ entry ∷ []) next
indexed_behind entry_of entries entry places next old more = grind (arith, option_or, position_from, position_behind)

or_none : (o : Option ℕ) → option_or o None ≡ o
or_none o = grind arith

-- what a table has under one name it has under the same name
under_same : (places : BTreeMap (List ℕ) ℕ) (name other : List ℕ) (found : Option ℕ) → same_name name other ≡ true → place_in places name ≡ found → place_in places other ≡ found
under_same places name other found same is = subst (λ (n : List ℕ). place_in places n ≡ found) ((bytes_decides name other).0 same) is

-- a name that has a place keeps it
pub place_kept : (places : BTreeMap (List ℕ) ℕ) (name : List ℕ) (place old : ℕ) → place_in places name ≡ Some old → (other : List ℕ) →
    place_in places other ≡ option_or (place_in places other) (cond (same_name name other) (Some place) None)
place_kept places name place old has other = grind (arith, ⊎_elim, under_same, option_or, or_none, cases_Bool)

-- a name that had none has this one
pub place_added : (places next : BTreeMap (List ℕ) ℕ) (name : List ℕ) (place : ℕ) → place_in places name ≡ None → Updates (slice_cmp nat_cmp) places next name (Some place) → (other : List ℕ) →
    place_in next other ≡ option_or (place_in places other) (cond (same_name name other) (Some place) None)
place_added places next name place none updates other = grind (arith, texts_ties, ⊎_elim, under_same, option_or, or_none, cases_Bool)
