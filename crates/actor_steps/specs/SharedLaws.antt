-- Bytes that hold bits of rows of two actors, and the actor of a byte that does not.
use Rattle.std.specs.Prelude.{◌≡◌, ℕ, zero, suc, ◌<◌, Bool, true, false, List, [], ◌∷◌, length, get_or, Some, None, refl, ◌==◌, if◌then◌else◌}
use Rattle.actor_steps.specs.Imports.{ap, ◌∙◌, arith, list_any, cases_Bool, and_parts, eqb-true, list_any_at, Any-from_list_any, get_or_default, Owner, Pad, Bit}
use Rattle.actor_steps.specs.ConfluenceLaws.{Each}
use Rattle.actor_steps.specs.Micro.{is_bit_of}
use Rattle.actor_steps.specs.Shared.{is_shared, first_of_all}
use Rattle.actor_steps.specs.AmongLaws.{true_or_false}

-- the actor that has a row with a bit among these; 0 where there is none
abbrev pub actor_in : (ℕ → ℕ) → List Owner → ℕ
actor_in actor [] = 0
actor_in actor (Pad ∷ owners) = actor_in actor owners
actor_in actor (Bit row leaf bit ∷ owners) = actor row

-- where no byte is shared, none of all is
pub none-shared : {X : Type 0} (test : X → Bool) (xs : List X) → first_of_all test xs ≡ None → Each (λ x. test x ≡ false) xs
none-shared test [] e = tt
none-shared {X} test (x ∷ xs) e = by_test (test x) refl e (λ rest. none-shared test xs rest) where
  by_test : (t : Bool) → test x ≡ t → (if t then Some x else first_of_all test xs) ≡ None → (first_of_all test xs ≡ None → Each (λ x. test x ≡ false) xs) → Each (λ x. test x ≡ false) (x ∷ xs)
  by_test true t none rest = absurd (cc)
  by_test false t none rest = (t, rest none)

-- the first bit, where there is one
pub record IsFirst (actor : ℕ → ℕ) (owners : List Owner) : Type 0 where
  pub at : ℕ
  pub row : ℕ
  pub leaf : ℕ
  pub bit : ℕ
  pub inside : at < length owners
  pub owner : get_or owners at Pad ≡ Bit row leaf bit
  pub is : actor_in actor owners ≡ actor row

first_bit : (actor : ℕ → ℕ) (owners : List Owner) (i row leaf k : ℕ) → get_or owners i Pad ≡ Bit row leaf k → IsFirst actor owners
first_bit actor [] i row leaf k e = absurd (cc)
first_bit actor (Bit r f j ∷ owners) i row leaf k e = record { at = 0; row = r; leaf = f; bit = j; inside = omega arith; owner = refl; is = refl }
first_bit actor (Pad ∷ owners) zero row leaf k e = absurd (cc)
first_bit actor (Pad ∷ owners) (suc i) row leaf k e =
    let rest = first_bit actor owners i row leaf k e in
    record { at = suc rest.at; row = rest.row; leaf = rest.leaf; bit = rest.bit; inside = omega (arith, rest.inside); owner = rest.owner; is = rest.is }

-- bits of a byte that is not shared have one actor
pub one_actor : (actor : ℕ → ℕ) (owners : List Owner) (i row leaf k : ℕ) → is_shared actor owners ≡ false → i < length owners → get_or owners i Pad ≡ Bit row leaf k
    → actor_in actor owners ≡ actor row
one_actor actor owners i row leaf k apart inside e =
    let first = first_bit actor owners i row leaf k e in grind (arith, eqb-true, list_any, list_any_at, true_or_false, cases_Bool)

-- such a bit, where a test says so
pub record HasBit (row leaf : ℕ) (owners : List Owner) : Type 0 where
  pub at : ℕ
  pub bit : ℕ
  pub inside : at < length owners
  pub owner : get_or owners at Pad ≡ Bit row leaf bit

pub has_bit : (row leaf : ℕ) (owners : List Owner) → list_any (is_bit_of row leaf) owners ≡ true → HasBit row leaf owners
has_bit row leaf owners e =
    let found = Any-from_list_any (is_bit_of row leaf) owners e in
    let bit = is_it found.1 found.4 in
    record { at = found.0; bit = bit.0; inside = found.2; owner = get_or_default owners found.0 Pad found.1 found.2 ∙ found.3 ∙ bit.1 } where
      is_it : (owner : Owner) → is_bit_of row leaf owner ≡ true → (k : ℕ) × (owner ≡ Bit row leaf k)
      is_it Pad holds = true_or_false false holds refl
      is_it (Bit s c k) holds =
          let both = and_parts (s == row) (c == leaf) holds in
          (k, ap (λ (w : ℕ). Bit w c k) (eqb-true s row both.0) ∙ ap (λ (w : ℕ). Bit row w k) (eqb-true c leaf both.1))

-- a byte with a bit of a leaf in a row is that of the row's actor
pub byte-actor : (actor : ℕ → ℕ) (row leaf : ℕ) (owners : List Owner) → is_shared actor owners ≡ false → list_any (is_bit_of row leaf) owners ≡ true → actor_in actor owners ≡ actor row
byte-actor actor row leaf owners apart e =
    let has = has_bit row leaf owners e in
    one_actor actor owners has.at row leaf has.bit apart has.inside has.owner
