-- Bits that are looked at one after another: whether two are those of rows of two actors.
use Rattle.actors.proofs.Imports.{◌≡◌, ℕ, Bool, true, false, List, [], ◌∷◌, Option, Some, None, refl, sym, ap, ◌∙◌, arith, ◌==◌, ◌||◌, not, if◌then◌else◌, list_any, fun_ext, or_parts, eq-eqb, nat_tests, list_any_none, Owner, Pad, Bit, are_of_two, is_shared}

module _ (actor : ℕ → ℕ) where
  -- whether one of some bits is of another actor than the first before it
  abbrev pub differs : Option ℕ → List Owner → Bool
  differs first [] = false
  differs first (Pad ∷ owners) = differs first owners
  differs None (Bit row leaf bit ∷ owners) = differs (Some (actor row)) owners
  differs (Some a) (Bit row leaf bit ∷ owners) = if a == actor row then differs (Some a) owners else true

  -- behind a bit it is whether one is of another actor than this bit
  some_is : (row leaf bit : ℕ) (owners : List Owner) → differs (Some (actor row)) owners ≡ list_any (are_of_two actor (Bit row leaf bit)) owners
  some_is row leaf bit [] = refl
  some_is row leaf bit (Pad ∷ owners) = some_is row leaf bit owners
  some_is row leaf bit (Bit r f k ∷ owners) = ap (λ (w : Bool). if actor row == actor r then w else true) (some_is row leaf bit owners) ∙ by_test (actor row == actor r) where
    by_test : (t : Bool) → (if t then list_any (are_of_two actor (Bit row leaf bit)) owners else true) ≡ (not t || list_any (are_of_two actor (Bit row leaf bit)) owners)
    by_test true = refl
    by_test false = refl

  -- two bits that are both of the actor of a third are of one
  apart_two : (row leaf bit : ℕ) (one two : Owner) → are_of_two actor (Bit row leaf bit) one ≡ false → are_of_two actor (Bit row leaf bit) two ≡ false → are_of_two actor one two ≡ false
  apart_two row leaf bit Pad two e f = refl
  apart_two row leaf bit (Bit r s t) Pad e f = refl
  apart_two row leaf bit (Bit r s t) (Bit r' s' t') e f = same (actor row) (actor r) (actor r') e f where
    same : (a b c : ℕ) → not (a == b) ≡ false → not (a == c) ≡ false → not (b == c) ≡ false
    same a b c e f = grind (arith, nat_tests)

  apart_one : (row leaf bit : ℕ) (one : Owner) (owners : List Owner) → are_of_two actor (Bit row leaf bit) one ≡ false → list_any (are_of_two actor (Bit row leaf bit)) owners ≡ false
      → list_any (are_of_two actor one) owners ≡ false
  apart_one row leaf bit one [] e f = refl
  apart_one row leaf bit one (two ∷ owners) e f =
      let parts = or_parts (are_of_two actor (Bit row leaf bit) two) (list_any (are_of_two actor (Bit row leaf bit)) owners) f in
      ap (λ (t : Bool). t || list_any (are_of_two actor one) owners) (apart_two row leaf bit one two e parts.0) ∙ apart_one row leaf bit one owners e parts.1

  apart_all : (row leaf bit : ℕ) (ones owners : List Owner) → list_any (are_of_two actor (Bit row leaf bit)) ones ≡ false → list_any (are_of_two actor (Bit row leaf bit)) owners ≡ false
      → list_any (λ one. list_any (are_of_two actor one) owners) ones ≡ false
  apart_all row leaf bit [] owners e f = refl
  apart_all row leaf bit (one ∷ ones) owners e f =
      let parts = or_parts (are_of_two actor (Bit row leaf bit) one) (list_any (are_of_two actor (Bit row leaf bit)) ones) e in
      ap (λ (t : Bool). t || list_any (λ one. list_any (are_of_two actor one) owners) ones) (apart_one row leaf bit one owners parts.0 f) ∙ apart_all row leaf bit ones owners parts.1 f

  -- so some bits are shared where one is of another actor than the first of them
  bit_is : (row leaf bit : ℕ) (owners : List Owner) → is_shared actor (Bit row leaf bit ∷ owners) ≡ list_any (are_of_two actor (Bit row leaf bit)) owners
  bit_is row leaf bit owners = by_test (list_any (are_of_two actor (Bit row leaf bit)) owners) refl where
    own : list_any (are_of_two actor (Bit row leaf bit)) (Bit row leaf bit ∷ owners) ≡ list_any (are_of_two actor (Bit row leaf bit)) owners
    own = ap (λ (t : Bool). not t || list_any (are_of_two actor (Bit row leaf bit)) owners) (eq-eqb (actor row) (actor row) refl)

    by_test : (t : Bool) → list_any (are_of_two actor (Bit row leaf bit)) owners ≡ t
        → (list_any (are_of_two actor (Bit row leaf bit)) (Bit row leaf bit ∷ owners) || list_any (λ one. list_any (are_of_two actor one) (Bit row leaf bit ∷ owners)) owners) ≡ t
    by_test true e = ap (λ (t : Bool). t || list_any (λ one. list_any (are_of_two actor one) (Bit row leaf bit ∷ owners)) owners) (own ∙ e)
    by_test false e =
        ap (λ (t : Bool). t || list_any (λ one. list_any (are_of_two actor one) (Bit row leaf bit ∷ owners)) owners) (own ∙ e)
        ∙ apart_all row leaf bit owners (Bit row leaf bit ∷ owners) e (own ∙ e)

  -- padding in front changes nothing
  pad_is : (owners : List Owner) → is_shared actor (Pad ∷ owners) ≡ is_shared actor owners
  pad_is owners =
      ap (λ (t : Bool). t || list_any (λ one. list_any (are_of_two actor one) (Pad ∷ owners)) owners) (list_any_none (are_of_two actor Pad) owners (λ k d inside. refl))
      ∙ ap (λ (test : Owner → Bool). list_any test owners) (fun_ext (λ one. ap (λ (t : Bool). t || list_any (are_of_two actor one) owners) (with_pad one))) where
        with_pad : (one : Owner) → are_of_two actor one Pad ≡ false
        with_pad Pad = refl
        with_pad (Bit row leaf bit) = refl

  -- the scan is the definition
  pub shared_is : (owners : List Owner) → is_shared actor owners ≡ differs None owners
  shared_is [] = refl
  shared_is (Pad ∷ owners) = pad_is owners ∙ shared_is owners
  shared_is (Bit row leaf bit ∷ owners) = bit_is row leaf bit owners ∙ sym (some_is row leaf bit owners)
