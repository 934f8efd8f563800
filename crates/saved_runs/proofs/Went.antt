-- What goes went at each of its steps, and a step that goes leads to the next.
use Rattle.saved_runs.proofs.Imports.{◌≡◌, ℕ, Bool, true, false, List, [], ◌∷◌, Option, Some, None, Result, Ok, ap, ◌∙◌, File, file_named, Entry, same_name, found, replaced, Goes, ◌>>=◌, refused_if, ok_or, there, read, CommandFault, Tested, sure, if◌then◌else◌, arith}

-- a step that went, and what it led to
pub record Went {A B E : Type 0} (x : Result A E) (f : A → Result B E) (b : B) : Type 0 where
  pub thing : A
  pub first : x ≡ Ok thing
  pub next : f thing ≡ Ok b

pub went : {A B E : Type 0} (x : Result A E) (f : A → Result B E) (b : B) → (x >>= f) ≡ Ok b → Went x f b
went x f b is = grind arith

-- what is given that reads no file
abbrev pub given : {A : Type 0} → A → Tested A
given x = Ok x

-- what went and reads no file
pub sure_went : {A : Type 0} (x : Tested A) (a : A) → sure x ≡ Goes a → x ≡ Ok a
sure_went x a is = grind arith

pub same_things : {A : Type 0} (x y : A) → Goes x ≡ Goes y → x ≡ y
same_things x y is = cc

pub same_given : {A : Type 0} (x y : A) → given x ≡ given y → x ≡ y
same_given x y is = cc

-- answers that went
pub unrefused : (test : Bool) (fault : CommandFault) (done : Unit {0}) → refused_if test fault ≡ Ok done → test ≡ false
unrefused test fault done is = grind arith

pub answered : {A E : Type 0} (fault : E → CommandFault) (x : Result A E) (a : A) → ok_or fault x ≡ Ok a → x ≡ Ok a
answered fault x a is = grind arith

pub was_read : (files : List File) (fails : Bool) (file bytes : List ℕ) → read files fails file ≡ Goes bytes → file_named files file ≡ Some bytes
was_read files true file bytes is = absurd (cc is)
was_read files false file bytes is = of_option (file_named files file) is
  where
    of_option : (o : Option (List ℕ)) → there file o ≡ Goes bytes → o ≡ Some bytes
    of_option None is = absurd (cc is)
    of_option (Some found) is = let same : found ≡ bytes = cc in ap Some same

-- the thing that a name has, under its name again
pub replaced_same : {A : Type 0} (name : List ℕ) (held : A) (entries : List (Entry A)) → found name entries ≡ Some held → replaced name held entries ≡ entries
replaced_same name held [] is = absurd (cc is)
replaced_same {A} name held (entry ∷ entries) is = of_test (same_name entry.name name) is (replaced_same name held entries)
  where
    of_test : (test : Bool) → (if test then Some entry.held else found name entries) ≡ Some held → (found name entries ≡ Some held → replaced name held entries ≡ entries)
        → (if test then record { name = entry.name; held = held } ∷ entries else entry ∷ replaced name held entries) ≡ entry ∷ entries
    of_test true is below =
        let same : held ≡ entry.held = cc in
        ap (λ (h : A). record { name = entry.name; held = h } ∷ entries) same
    of_test false is below = ap (λ (rest : List (Entry A)). entry ∷ rest) (below is)
