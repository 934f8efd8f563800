-- Entries of the same names, and what is looked up among them.
use Rattle.equal_runs.proofs.Imports.{◌≡◌, ℕ, suc, Bool, true, false, List, [], ◌∷◌, length, Option, Some, None, refl, ap, if◌then◌else◌, is_some, Entry, same_name, found, added, replaced, removed, known, free, some_or, refused_if, CommandFault, Unknown, Taken, Name, arith}
use Rattle.equal_runs.proofs.Agreeing.{Agree, go, fault}

-- the same names in the same order, and for each things that are related so
pub data Entries {A B : Type 0} (R : A → B → Type 0) : List (Entry A) → List (Entry B) → Type 0 where
  none : Entries R [] []
  more : (name : List ℕ) (a : A) (b : B) (xs : List (Entry A)) (ys : List (Entry B)) → R a b → Entries R xs ys → Entries R (record { name = name; held = a } ∷ xs) (record { name = name; held = b } ∷ ys)

-- a name stands for related things, or for nothing in both; what was found is told beside
pub data Finds {A B : Type 0} (R : A → B → Type 0) : Option A → Option B → Type 0 where
  some : (a : A) (b : B) → R a b → Finds R (Some a) (Some b)
  nothing : Finds R None None

pub finds : {A B : Type 0} (R : A → B → Type 0) (name : List ℕ) (xs : List (Entry A)) (ys : List (Entry B)) → Entries R xs ys → Finds R (found name xs) (found name ys)
finds {A} {B} R name xs ys none = nothing
finds {A} {B} R name xs ys (more other a b us vs r rest) = of_test (same_name other name) (finds R name us vs rest) where
  of_test : (test : Bool) → Finds R (found name us) (found name vs) → Finds R (if test then Some a else found name us) (if test then Some b else found name vs)
  of_test true later = some a b r
  of_test false later = later

-- what is found, and that it is what was looked for
pub record At {A : Type 0} (R : A → A → Type 0) (x y : Option A) (a b : A) : Type 0 where
  pub alike : R a b
  pub first : x ≡ Some a
  pub second : y ≡ Some b

pub known_option : {A : Type 0} (m o : Bool) (R : A → A → Type 0) (f : CommandFault) (x y : Option A) → Finds R x y → Agree m o (At R x y) (some_or f x) (some_or f y)
known_option m o R f x y h = grind (arith, go, fault)

pub known_agree : {A : Type 0} (m o : Bool) (R : A → A → Type 0) (name : List ℕ) (xs ys : List (Entry A)) → Entries R xs ys
    → Agree m o (At R (found name xs) (found name ys)) (known name xs) (known name ys)
known_agree m o R name xs ys alike = known_option m o R (Unknown (Name name)) (found name xs) (found name ys) (finds R name xs ys alike)

-- there is nothing in both
abbrev pub Neither : {A : Type 0} → Option A → Option A → Unit {0} → Unit {0} → Type 0
Neither x y p q = (x ≡ None) × (y ≡ None)

-- a name is taken in both or in none
pub free_agree : {A : Type 0} (m o : Bool) (R : A → A → Type 0) (name : List ℕ) (xs ys : List (Entry A)) → Entries R xs ys
    → Agree m o (Neither (found name xs) (found name ys)) (free name xs) (free name ys)
free_agree {A} m o R name xs ys alike = of_finds (found name xs) (found name ys) (finds R name xs ys alike) where
  of_finds : (x y : Option A) → Finds R x y → Agree m o (Neither x y) (refused_if (is_some x) (Taken name)) (refused_if (is_some y) (Taken name))
  of_finds x y (some a b r) = fault (Taken name)
  of_finds x y nothing = go tt tt (refl, refl)

pub entries_added : {A B : Type 0} (R : A → B → Type 0) (name : List ℕ) (a : A) (b : B) (xs : List (Entry A)) (ys : List (Entry B)) → R a b → Entries R xs ys → Entries R (added name a xs) (added name b ys)
entries_added R name a b xs ys r none = more name a b [] [] r none
entries_added R name a b xs ys r (more other c d us vs s rest) = more other c d (added name a us) (added name b vs) s (entries_added R name a b us vs r rest)

pub entries_replaced : {A B : Type 0} (R : A → B → Type 0) (name : List ℕ) (a : A) (b : B) (xs : List (Entry A)) (ys : List (Entry B)) → R a b → Entries R xs ys → Entries R (replaced name a xs) (replaced name b ys)
entries_replaced {A} {B} R name a b xs ys r none = none
entries_replaced {A} {B} R name a b xs ys r (more other c d us vs s rest) = of_test (same_name other name) (entries_replaced R name a b us vs r rest) where
  of_test : (test : Bool) → Entries R (replaced name a us) (replaced name b vs)
      → Entries R (if test then record { name = other; held = a } ∷ us else record { name = other; held = c } ∷ replaced name a us)
      (if test then record { name = other; held = b } ∷ vs else record { name = other; held = d } ∷ replaced name b vs)
  of_test true later = more other a b us vs r rest
  of_test false later = more other c d (replaced name a us) (replaced name b vs) s later

pub entries_removed : {A B : Type 0} (R : A → B → Type 0) (name : List ℕ) (xs : List (Entry A)) (ys : List (Entry B)) → Entries R xs ys → Entries R (removed name xs) (removed name ys)
entries_removed {A} {B} R name xs ys none = none
entries_removed {A} {B} R name xs ys (more other c d us vs s rest) = of_test (same_name other name) (entries_removed R name us vs rest) where
  of_test : (test : Bool) → Entries R (removed name us) (removed name vs)
      → Entries R (if test then us else record { name = other; held = c } ∷ removed name us) (if test then vs else record { name = other; held = d } ∷ removed name vs)
  of_test true later = rest
  of_test false later = more other c d (removed name us) (removed name vs) s later

pub length-entries : {A B : Type 0} (R : A → B → Type 0) (xs : List (Entry A)) (ys : List (Entry B)) → Entries R xs ys → length xs ≡ length ys
length-entries R xs ys none = refl
length-entries R xs ys (more name a b us vs r rest) = ap suc (length-entries R us vs rest)
