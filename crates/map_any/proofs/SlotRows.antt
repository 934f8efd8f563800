-- By rows and by columns each slot is that of a row.
use Rattle.map_any.proofs.Imports.{◌≡◌, ◌⊎◌, ⊎_elim, ℕ, ◌<◌, List, [], length, Some, inl, inr, refl, sym, ap, ◌∙◌, subst, arith, reverse, reverse-reverse, get_or_from_slice_get, indices, IsInside, inside_of_entry, row_of_inside, Order, Row, Col, product_count, slot_at, slot_count, index_at, place_in_is, slot_at_by_rows, entry_of_row, IsInside-reverse, slice_get}

-- there are as many slots as rows, and each is that of a row
pub record HasRows (order : Order) (extents : List ℕ) : Type 0 where
  pub many : slot_count order extents ≡ length (indices extents)
  pub row : (slot : ℕ) → slot < length (indices extents) → (row : ℕ) × (row < length (indices extents)) × (slot_at order extents row ≡ slot)

by_rows : (extents : List ℕ) → HasRows Row extents
by_rows extents = record { many = refl; row = λ slot low. (slot, low, slot_at_by_rows extents slot low) }

by_columns : (extents : List ℕ) → HasRows Col extents
by_columns extents =
    let many : slot_count Col extents ≡ length (indices extents) = product_count Col extents (inr refl) ∙ sym (product_count Row extents (inl refl)) in
    record {
      many = many;
      row = λ slot low.
          (let index : List ℕ = index_at (reverse extents) slot in
          let entry : slice_get (indices (reverse extents)) slot ≡ Some index = entry_of_row (reverse extents) slot (omega (arith, low, many)) in
          let inside : IsInside extents (reverse index) =
          subst (λ (e : List ℕ). IsInside e (reverse index)) (reverse-reverse extents) (IsInside-reverse (reverse extents) index (inside_of_entry (reverse extents) slot index entry)) in
          let row = row_of_inside extents (reverse index) inside in
          let same : reverse (index_at extents row.0) ≡ index = ap reverse (get_or_from_slice_get (indices extents) row.0 (reverse index) [] row.2) ∙ reverse-reverse index in
          (row.0, row.1, place_in_is (reverse extents) (reverse (index_at extents row.0)) slot (entry ∙ ap Some (sym same))));
    }

pub has_rows : (order : Order) (extents : List ℕ) → (order ≡ Row) ⊎ (order ≡ Col) → HasRows order extents
has_rows order extents either =
    ⊎_elim (λ (is : order ≡ Row). subst (λ (o : Order). HasRows o extents) (sym is) (by_rows extents))
    (λ (is : order ≡ Col). subst (λ (o : Order). HasRows o extents) (sym is) (by_columns extents)) either
