-- The first table of a name, by its place among the others.
use Rattle.session.proofs.Imports.{◌≡◌, true, false, ℕ, zero, suc, List, [], ◌∷◌, get_or, Option, Some, None, refl, ap, ⊎_elim, slice_set, cases_Bool, Table, Entry, same_name, found, replaced, known, GivesUp, IsFirst, StepFault, Err, map, sym, ◌∙◌, view_of, IsAt, ViewEntry}
use Rattle.command_checks.specs.declared.fault.StepFault.TheVariants as step

-- the first table of a name is found
pub first_found : (name : List ℕ) (entries : List (Entry Table)) (place : ℕ) (d : Entry Table) → IsFirst name entries place → found name entries ≡ Some (get_or entries place d).held
first_found name [] place d first = absurd first
first_found name (entry ∷ entries) zero d first = rw first refl
first_found name (entry ∷ entries) (suc place) d first = rw first.0 (first_found name entries place d first.1)

-- it is replaced
pub first_replaced : (name : List ℕ) (entries : List (Entry Table)) (place : ℕ) (d : Entry Table) (held : Table) → IsFirst name entries place →
    replaced name held entries ≡ slice_set entries place (record { name = (get_or entries place d).name; held = held })
first_replaced name [] place d held first = absurd first
first_replaced name (entry ∷ entries) zero d held first = rw first refl
first_replaced name (entry ∷ entries) (suc place) d held first = rw first.0 (ap (λ more. entry ∷ more) (first_replaced name entries place d held first.1))

-- it is the first still where a table was replaced
pub first_still : (name : List ℕ) (entries : List (Entry Table)) (place other : ℕ) (d : Entry Table) (held : Table) → IsFirst name entries place →
    IsFirst name (slice_set entries other (record { name = (get_or entries other d).name; held = held })) place
first_still name [] place other d held first = absurd first
first_still name (entry ∷ entries) zero zero d held first = first
first_still name (entry ∷ entries) zero (suc other) d held first = first
first_still name (entry ∷ entries) (suc place) zero d held first = first
first_still name (entry ∷ entries) (suc place) (suc other) d held first = (first.0, first_still name entries place other d held first.1)

-- a name that is unknown is so too where a table was replaced
still_unknown : (name other : List ℕ) (entries : List (Entry Table)) (held : Table) → found name entries ≡ None → found name (replaced other held entries) ≡ None
still_unknown name other [] held none = refl
still_unknown name other (entry ∷ entries) held none = ⊎_elim
    (λ (same : same_name entry.name name ≡ true). absurd (none_here (rw same at none)))
    (λ (differ : same_name entry.name name ≡ false).
    let behind : found name entries ≡ None = rw differ at none in
    ⊎_elim
    (λ (here : same_name entry.name other ≡ true). rw (here, differ) behind)
    (λ (later : same_name entry.name other ≡ false). rw (later, differ) (still_unknown name other entries held behind))
    (cases_Bool (same_name entry.name other)))
    (cases_Bool (same_name entry.name name))
  where
    none_here : {A : Type 0} {x : A} → Some x ≡ None → ⊥
    none_here e = cc

pub gives_up_still : (name other : List ℕ) (entries : List (Entry Table)) (held : Table) (fault : StepFault) → GivesUp (known name entries) fault → GivesUp (known name (replaced other held entries)) fault
gives_up_still name other entries held (step.Command refusal) gives = refused (found name entries) refl
  where
    refused : (what : Option Table) → found name entries ≡ what → known name (replaced other held entries) ≡ Err refusal
    refused None none = rw (still_unknown name other entries held none) (rw none at gives)
    refused (Some table) some = absurd (cc)
gives_up_still name other entries held step.NoMemory gives = tt
gives_up_still name other entries held fault gives = absurd gives

-- the views with one changed in its place
pub table_changed : (items : List ViewEntry) (name : List ℕ) (place : ℕ) (entry changed : ViewEntry) → IsAt view_of name items place → entry ≡ get_or items place entry → changed.name ≡ entry.name →
    map view_of (slice_set items place changed) ≡ replaced name changed.view (map view_of items)
table_changed items name place entry changed at is same = sym (at.other entry changed (same ∙ ap (λ (e : ViewEntry). e.name) is))
