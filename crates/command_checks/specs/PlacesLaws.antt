-- Laws of names and the places of their entries.
use Rattle.std.specs.Prelude.{◌≡◌, ℕ, zero, suc, ◌+◌, ◌<◌, true, false, List, [], ◌∷◌, ◌++◌, length, map, take, drop, get_or, Some, None, refl, Ok, Err, is_some}
use Rattle.command_checks.specs.Imports.{sym, ap, ◌∙◌, subst, arith, ⊎_elim, cases_Bool, Entry, same_name, found, known, free, some_or, refused_if, Unknown, Taken, Name, position_from}
use Rattle.command_checks.specs.Inner.Places.{without, IsAt}

here : {E A : Type 0} (entry_of : E → Entry A) (name : List ℕ) (first : E) (rest : List E) → same_name (entry_of first).name name ≡ true → IsAt entry_of name (first ∷ rest) 0
here entry_of name first rest same = record {
  inside = omega arith;
  is = λ d. rw same refl;
  gone = rw same refl;
  other = λ d e alike. rw (same, ← alike) refl;
  first = same;
}

behind : {E A : Type 0} (entry_of : E → Entry A) (name : List ℕ) (first : E) (rest : List E) (place : ℕ) → same_name (entry_of first).name name ≡ false → IsAt entry_of name rest place
    → IsAt entry_of name (first ∷ rest) (suc place)
behind entry_of name first rest place other at = record {
  inside = omega (arith, at.inside);
  is = λ d. rw other (at.is d);
  gone = rw other (ap (λ xs. entry_of first ∷ xs) at.gone);
  other = λ d e alike. rw other (ap (λ xs. entry_of first ∷ xs) (at.other d e alike));
  first = (other, at.first);
}

-- a place that was found
placed : {E A : Type 0} (entry_of : E → Entry A) (name : List ℕ) (entries : List E) (low place : ℕ) → position_from (λ e. same_name (entry_of e).name name) low entries ≡ Some place
    → (n : ℕ) × (place ≡ low + n) × IsAt entry_of name entries n
placed entry_of name [] low place found = absurd (cc)
placed entry_of name (first ∷ rest) low place found = ⊎_elim
    (λ (same : same_name (entry_of first).name name ≡ true).
    let e : Some low ≡ Some place = rw same at found in
    let is : low ≡ place = cc in
    (0, omega arith, here entry_of name first rest same))
    (λ (other : same_name (entry_of first).name name ≡ false).
    let later = placed entry_of name rest (low + 1) place (rw other at found) in
    let past : place ≡ low + suc later.0 = omega (arith, later.1) in
    (suc later.0, past, behind entry_of name first rest later.0 other later.2))
    (cases_Bool (same_name (entry_of first).name name))

pub placed_at : {E A : Type 0} (entry_of : E → Entry A) (name : List ℕ) (entries : List E) (place : ℕ) → position_from (λ e. same_name (entry_of e).name name) 0 entries ≡ Some place
    → IsAt entry_of name entries place
placed_at entry_of name entries place found =
    let at = placed entry_of name entries 0 place found in
    let same : at.0 ≡ place = omega (arith, at.1) in
    subst (λ n. IsAt entry_of name entries n) same at.2

-- no place was found
pub nowhere : {E A : Type 0} (entry_of : E → Entry A) (name : List ℕ) (entries : List E) (low : ℕ) → position_from (λ e. same_name (entry_of e).name name) low entries ≡ None
    → found name (map entry_of entries) ≡ None
nowhere entry_of name [] low none = refl
nowhere entry_of name (first ∷ rest) low none = ⊎_elim
    (λ (same : same_name (entry_of first).name name ≡ true).
    let e : Some low ≡ None = rw same at none in absurd (cc))
    (λ (other : same_name (entry_of first).name name ≡ false). rw other (nowhere entry_of name rest (low + 1) (rw other at none)))
    (cases_Bool (same_name (entry_of first).name name))

-- the list of std without the element at a place
pub without_is : {E : Type 0} (entries : List E) (place : ℕ) → place < length entries → without entries place ≡ take place entries ++ drop (place + 1) entries
without_is [] place inside = absurd (omega (arith, inside))
without_is (entry ∷ entries) zero inside = refl
without_is (entry ∷ entries) (suc place) inside =
    let more : suc place + 1 ≡ suc (place + 1) = omega arith in
    let less : place < length entries = omega (arith, inside) in
    rw more (ap (λ xs. entry ∷ xs) (without_is entries place less))

-- what a used name stands for, by the place of its entry and by the entry there, and one that stands for nothing
pub known_place : {E A : Type 0} (entry_of : E → Entry A) (name : List ℕ) (entries : List E) (place : ℕ) (d : E) → IsAt entry_of name entries place
    → known name (map entry_of entries) ≡ Ok (entry_of (get_or entries place d)).held
known_place entry_of name entries place d at = ap (some_or (Unknown (Name name))) (at.is d)

pub known_at : {E A : Type 0} (entry_of : E → Entry A) (name : List ℕ) (entries : List E) (place : ℕ) (entry : E) → IsAt entry_of name entries place → entry ≡ get_or entries place entry
    → known name (map entry_of entries) ≡ Ok (entry_of entry).held
known_at entry_of name entries place entry at is = known_place entry_of name entries place entry at ∙ ap (λ e. Ok (entry_of e).held) (sym is)

pub unknown_name : {E A : Type 0} (entry_of : E → Entry A) (name : List ℕ) (entries : List E) → position_from (λ e. same_name (entry_of e).name name) 0 entries ≡ None
    → known name (map entry_of entries) ≡ Err (Unknown (Name name))
unknown_name entry_of name entries none = ap (some_or (Unknown (Name name))) (nowhere entry_of name entries 0 none)

-- a defined name is taken where an entry has it
has_place : {E A : Type 0} (entry_of : E → Entry A) (name : List ℕ) (entries : List E) (low : ℕ)
    → is_some (found name (map entry_of entries)) ≡ is_some (position_from (λ e. same_name (entry_of e).name name) low entries)
has_place entry_of name [] low = refl
has_place entry_of name (first ∷ rest) low = ⊎_elim
    (λ (same : same_name (entry_of first).name name ≡ true). rw same refl)
    (λ (other : same_name (entry_of first).name name ≡ false). rw other (has_place entry_of name rest (low + 1)))
    (cases_Bool (same_name (entry_of first).name name))

pub free_by_place : {E A : Type 0} (entry_of : E → Entry A) (name : List ℕ) (entries : List E)
    → free name (map entry_of entries) ≡ refused_if (is_some (position_from (λ e. same_name (entry_of e).name name) 0 entries)) (Taken name)
free_by_place entry_of name entries = ap (λ some. refused_if some (Taken name)) (has_place entry_of name entries 0)
