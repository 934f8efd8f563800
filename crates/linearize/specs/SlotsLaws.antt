-- The laws of slots, for any order.
use Rattle.std.proofs.Common.{◌≡◌, ℕ, ◌<◌, cond, eqb, ltb, List, [], ◌∷◌, ◌++◌, length, get_or, Some, None, refl, sym, ap, ◌∙◌, arith}
use Rattle.std.specs.Prelude.{reverse, nat_eq, slice_get}
use Rattle.std.specs.List.{position_or_len}
use Rattle.std.specs.Cmp.Lexicographic.{pointwise}
use Rattle.std.proofs.lemmas.Bool.{false_from_ne_true, cond_below}
use Rattle.std.proofs.lemmas.Bool.Decides.{Decides-eqb, Decides-ltb}
use Rattle.std.proofs.lemmas.List.{reverse-reverse}
use Rattle.std.proofs.lemmas.List.Elements.{AllZip-push}
use Rattle.std.proofs.lemmas.List.Sums.{position_or_len_is, passes_at_first}
use Rattle.std.proofs.lemmas.Option.{slice_get_within, get_or_from_slice_get, slice_get-get_or, same_Some, cond_some}
use Rattle.std.proofs.lemmas.Slice.Eq.{bytes_eq-Decides}
use Rattle.std.proofs.lemmas.Grind.{reverse_onto}
use Rattle.extents.specs.declared.order.Order.{Order}
use Rattle.extents.specs.declared.order.Order.TheVariants.{Row, Col, Morton}
use Rattle.extents.specs.Indices.{indices, IsInside}
use Rattle.extents.specs.IndicesLaws.{same_row, row_of_inside, inside_of_entry}
use Rattle.linearize.specs.Slots.{place_in, slot_of, slot_count, index_at, slot_at, row_at}
use Rattle.linearize.specs.MortonLaws.{interleaved_below, same_from_interleaved}

-- ---- places

-- where an entry stands is its place
pub place_in_is : (e i : List ℕ) (k : ℕ) → slice_get (indices e) k ≡ Some i → place_in (indices e) i ≡ k
place_in_is e i k at =
    let within = slice_get_within (indices e) k i at in
    position_or_len_is (λ entry. pointwise nat_eq entry i) (indices e) k [] (omega arith)
    (λ j below. false_from_ne_true (pointwise nat_eq (get_or (indices e) j []) i) (λ t.
    let same = (bytes_eq-Decides (get_or (indices e) j []) i).0 t in
    let twice = same_row e i j k (slice_get-get_or (indices e) j [] (omega arith) ∙ ap Some same) at in
    absurd (omega arith)))
    (λ _. (bytes_eq-Decides (get_or (indices e) k []) i).1 (get_or_from_slice_get (indices e) k i [] at))

-- at the place of an index inside stands that index
pub slice_get-place_in : (e i : List ℕ) → IsInside e i → slice_get (indices e) (place_in (indices e) i) ≡ Some i
slice_get-place_in e i inside = grind (arith, row_of_inside, slice_get, place_in_is)

-- ---- reversed indices

reverse-cons : (x : ℕ) (xs : List ℕ) → reverse (x ∷ xs) ≡ reverse xs ++ x ∷ []
reverse-cons x xs = reverse_onto xs x []

pub IsInside-reverse : (e i : List ℕ) → IsInside e i → IsInside (reverse e) (reverse i)
IsInside-reverse [] [] h = h
IsInside-reverse [] (k ∷ i) h = absurd h
IsInside-reverse (n ∷ e) [] h = absurd h
IsInside-reverse (n ∷ e) (k ∷ i) h = grind (arith, AllZip-push, reverse-cons, (IsInside-reverse e i h.1))

-- ---- slots

-- a slot is below their number
pub slot_below : (o : Order) (e i : List ℕ) → IsInside e i → slot_of o e i < slot_count o e
slot_below Row e i inside = slice_get_within (indices e) (place_in (indices e) i) i (slice_get-place_in e i inside)
slot_below Col e i inside =
    slice_get_within (indices (reverse e)) (place_in (indices (reverse e)) (reverse i)) (reverse i) (slice_get-place_in (reverse e) (reverse i) (IsInside-reverse e i inside))
slot_below Morton e i inside = interleaved_below e i inside

-- two entries at one place are one
same_entry : (e i j : List ℕ) → IsInside e i → IsInside e j → place_in (indices e) i ≡ place_in (indices e) j → i ≡ j
same_entry e i j hi hj same = grind (arith, same_Some, slice_get-place_in, slice_get)

-- different indices have different slots
pub same_index : (o : Order) (e i j : List ℕ) → IsInside e i → IsInside e j → slot_of o e i ≡ slot_of o e j → i ≡ j
same_index Row e i j hi hj same = same_entry e i j hi hj same
same_index Col e i j hi hj same =
    let turned = same_entry (reverse e) (reverse i) (reverse j) (IsInside-reverse e i hi) (IsInside-reverse e j hj) same in
    sym (reverse-reverse i) ∙ ap reverse turned ∙ reverse-reverse j
same_index Morton e i j hi hj same = same_from_interleaved e i j hi hj same

-- ---- rows

pub entry_of_row : (e : List ℕ) (r : ℕ) → r < length (indices e) → slice_get (indices e) r ≡ Some (index_at e r)
entry_of_row e r h = slice_get-get_or (indices e) r [] h

pub index_at_inside : (e : List ℕ) (r : ℕ) → r < length (indices e) → IsInside e (index_at e r)
index_at_inside e r h = inside_of_entry e r (index_at e r) (entry_of_row e r h)

-- the slot of a row is below their number
pub slot_at_below : (o : Order) (e : List ℕ) (r : ℕ) → r < length (indices e) → slot_at o e r < slot_count o e
slot_at_below o e r h = slot_below o e (index_at e r) (index_at_inside e r h)

-- different rows have different slots
pub same_row_of_slot : (o : Order) (e : List ℕ) (r r' : ℕ) → r < length (indices e) → r' < length (indices e) → slot_at o e r ≡ slot_at o e r' → r ≡ r'
same_row_of_slot o e r r' h h' same =
    let index : index_at e r ≡ index_at e r' = same_index o e (index_at e r) (index_at e r') (index_at_inside e r h) (index_at_inside e r' h') same in
    same_row e (index_at e r') r r' (entry_of_row e r h ∙ ap Some index) (entry_of_row e r' h')

-- the row at the slot of a row is that row
pub row_at-slot_at : (o : Order) (e : List ℕ) (r : ℕ) → r < length (indices e) → row_at o e (slot_at o e r) ≡ Some r
unfolding row_at
row_at-slot_at o e r h =
    let first : position_or_len (λ i. eqb (slot_of o e i) (slot_at o e r)) (indices e) ≡ r =
    position_or_len_is (λ i. eqb (slot_of o e i) (slot_at o e r)) (indices e) r [] (omega arith)
    (λ k below. false_from_ne_true (eqb (slot_at o e k) (slot_at o e r)) (λ t.
    let twice = same_row_of_slot o e k r (omega arith) h ((Decides-eqb (slot_at o e k) (slot_at o e r)).0 t) in
    absurd (omega arith)))
    (λ _. (Decides-eqb (slot_at o e r) (slot_at o e r)).1 refl) in
    ap (λ k. cond (ltb k (length (indices e))) (Some k) None) first ∙ sym (cond_below r (length (indices e)) (Some r) None h)

-- a row at a slot has that slot
pub slot_at-row_at : (o : Order) (e : List ℕ) (s r : ℕ) → row_at o e s ≡ Some r → (r < length (indices e)) × (slot_at o e r ≡ s)
unfolding row_at
slot_at-row_at o e s r at = grind (arith, position_or_len, cond_some, Decides-ltb, passes_at_first, Decides-eqb)

-- the row at the slot of an index is that of the index
pub row_at-slot_of : (o : Order) (e i : List ℕ) (r : ℕ) → slice_get (indices e) r ≡ Some i → row_at o e (slot_of o e i) ≡ Some r
row_at-slot_of o e i r at =
    let same : index_at e r ≡ i = get_or_from_slice_get (indices e) r i [] at in
    ap (λ x. row_at o e (slot_of o e x)) (sym same) ∙ row_at-slot_at o e r (slice_get_within (indices e) r i at)

-- by rows a slot is its row
pub slot_at_by_rows : (e : List ℕ) (r : ℕ) → r < length (indices e) → slot_at Row e r ≡ r
slot_at_by_rows e r h = place_in_is e (index_at e r) r (entry_of_row e r h)
