-- Indices inside extents.
use Rattle.view_commands.proofs.Imports.{◌≡◌, ℕ, zero, suc, ◌<◌, true, false, nat_eq, List, [], ◌∷◌, length, Some, refl, sym, ap, ◌∙◌, ⊎_elim, pointwise, list_any, slice_get, cases_Bool, false≢true, nat_list_eq_equiv, length_all_zip, IsInside, inside_of_entry, row_of_inside, same_text, inside, BadIndex, Ok, Err, arith}

any_at : (index : List ℕ) (lists : List (List ℕ)) (k : ℕ) → slice_get lists k ≡ Some index → list_any (λ other. pointwise nat_eq other index) lists ≡ true
any_at index [] k there = absurd (cc)
any_at index (first ∷ lists) zero there =
    let is : first ≡ index = cc in
    let same : pointwise nat_eq first index ≡ true = rw is (nat_list_eq_equiv.refl index) in
    rw same refl
any_at index (first ∷ lists) (suc k) there =
    let later = any_at index lists k there in
    ⊎_elim (λ (e : pointwise nat_eq first index ≡ true). rw e refl) (λ (e : pointwise nat_eq first index ≡ false). rw e later) (cases_Bool (pointwise nat_eq first index))

any_there : (index : List ℕ) (lists : List (List ℕ)) → list_any (λ other. pointwise nat_eq other index) lists ≡ true → (k : ℕ) × (slice_get lists k ≡ Some index)
any_there index [] any = absurd (false≢true any)
any_there index (first ∷ lists) any = ⊎_elim
    (λ (e : pointwise nat_eq first index ≡ true). (0, ap Some (same_text first index e)))
    (λ (e : pointwise nat_eq first index ≡ false). let later = any_there index lists (rw e at any) in (suc later.0, later.1))
    (cases_Bool (pointwise nat_eq first index))

-- an index inside the extents is one of their list
pub inside_goes : (extents index : List ℕ) → IsInside extents index → inside extents index ≡ Ok tt
inside_goes extents index is = grind (arith, row_of_inside, any_at)

-- and no other is
pub inside_not : (extents index : List ℕ) → (IsInside extents index → ⊥) → inside extents index ≡ Err BadIndex
inside_not extents index none = grind (arith, nat_eq, any_there, inside_of_entry, cases_Bool)

pub other_rank : (extents index : List ℕ) (rank : ℕ) → rank ≡ length extents → (length index ≡ rank → ⊥) → IsInside extents index → ⊥
other_rank extents index rank is other inside = other (length_all_zip (λ i n. i < n) index extents inside ∙ sym is)
