-- What is found among entries after a change.
use Rattle.std.specs.Prelude.{◌≡◌, ◌∷◌, if◌then◌else◌}
use Rattle.equal_runs.specs.Imports.{ℕ, Bool, true, false, List, [], Some, None, refl, nat_eq, arith, nat_tests, Entry, same_name, found, added, replaced}

-- another thing under a name is found there, and so is one thing more
pub found_replaced : {A : Type 0} (name : List ℕ) (new old : A) (entries : List (Entry A)) → found name entries ≡ Some old → found name (replaced name new entries) ≡ Some new
found_replaced name new old [] is = absurd (cc)
found_replaced {A} name new old (entry ∷ entries) is = of_test (same_name entry.name name) refl is (found_replaced name new old entries) where
  of_test : (test : Bool) → same_name entry.name name ≡ test → (if test then Some entry.held else found name entries) ≡ Some old
      → (found name entries ≡ Some old → found name (replaced name new entries) ≡ Some new)
      → found name (if test then record { name = entry.name; held = new } ∷ entries else entry ∷ replaced name new entries) ≡ Some new
  of_test true same is below = rw same refl
  of_test false same is below = rw same (below is)

same_self : (name : List ℕ) → same_name name name ≡ true
same_self [] = refl
same_self (byte ∷ bytes) = let one : nat_eq byte byte ≡ true = grind (arith, nat_tests) in rw one (same_self bytes)

pub found_added : {A : Type 0} (name : List ℕ) (new : A) (entries : List (Entry A)) → found name entries ≡ None → found name (added name new entries) ≡ Some new
found_added name new [] is = rw (same_self name) refl
found_added {A} name new (entry ∷ entries) is = of_test (same_name entry.name name) refl is (found_added name new entries) where
  of_test : (test : Bool) → same_name entry.name name ≡ test → (if test then Some entry.held else found name entries) ≡ None
      → (found name entries ≡ None → found name (added name new entries) ≡ Some new) → (if same_name entry.name name then Some entry.held else found name (added name new entries)) ≡ Some new
  of_test true same is below = absurd (cc)
  of_test false same is below = rw same (below is)
