-- What a loop over the rows of a window has done so far.
use Rattle.subviews.proofs.Imports.{◌≡◌, ℕ, zero, suc, ◌+◌, ◌<◌, ℤ, List, [], ◌∷◌, ◌++◌, length, map, take, get_or, flat_map, Contains, Result, Ok, Err, is_err, cond, not, refl, ap, sym, ◌∙◌, arith, position_or_len, append-nil, take_more, map-append, flat_map-append, with_entry, StoreFault, at_row, first_round_fault, with_entries}

-- the logs of a row more
pub logs_front : {A : Type 0} (logs : ℕ → List A) (rows : List ℕ) (k d : ℕ) → k < length rows → flat_map logs (take k rows) ++ logs (get_or rows k d) ≡ flat_map logs (take (k + 1) rows)
logs_front logs rows k d small =
    ap (λ last. flat_map logs (take k rows) ++ last) (sym (append-nil (logs (get_or rows k d)))) ∙ sym (flat_map-append logs (take k rows) (get_or rows k d ∷ [])) ∙ ap (flat_map logs) (sym (take_more rows k d small))

-- and one access
pub map_front : {A : Type 0} (access : ℕ → A) (rows : List ℕ) (k d : ℕ) → k < length rows → map access (take k rows) ++ access (get_or rows k d) ∷ [] ≡ map access (take (k + 1) rows)
map_front access rows k d small = sym (map-append access (take k rows) (get_or rows k d ∷ [])) ∙ ap (map access) (sym (take_more rows k d small))

-- ---- the first fault

-- a row behind others without a fault
fault_behind : (answer : ℕ → Result ℤ StoreFault) (rows more : List ℕ) → first_round_fault answer rows ≡ Ok tt → first_round_fault answer (rows ++ more) ≡ first_round_fault answer more
fault_behind answer [] more fits = refl
fault_behind answer (row ∷ rows) more fits = of_row (answer row) fits (fault_behind answer rows more) where
  of_row : (one : Result ℤ StoreFault) → at_row row one (first_round_fault answer rows) ≡ Ok tt → (first_round_fault answer rows ≡ Ok tt → first_round_fault answer (rows ++ more) ≡ first_round_fault answer more)
      → at_row row one (first_round_fault answer (rows ++ more)) ≡ first_round_fault answer more
  of_row (Ok kept) fits rest = rest fits
  of_row (Err fault) fits rest = absurd (cc)

pub fits_more : (answer : ℕ → Result ℤ StoreFault) (rows : List ℕ) (k d : ℕ) (kept : ℤ) → k < length rows → first_round_fault answer (take k rows) ≡ Ok tt → answer (get_or rows k d) ≡ Ok kept
    → first_round_fault answer (take (k + 1) rows) ≡ Ok tt
fits_more answer rows k d kept small fits taken =
    ap (first_round_fault answer) (take_more rows k d small) ∙ fault_behind answer (take k rows) (get_or rows k d ∷ []) fits ∙ ap (λ one. at_row (get_or rows k d) one (Ok tt)) taken

-- a fault behind rows without one is the first, and it is in this place
pub fault_here : (answer : ℕ → Result ℤ StoreFault) (rows : List ℕ) (k d : ℕ) (fault : StoreFault) → k < length rows → first_round_fault answer (take k rows) ≡ Ok tt → answer (get_or rows k d) ≡ Err fault
    → (first_round_fault answer rows ≡ Err (record { row = get_or rows k d; fault = fault })) × (position_or_len (λ row. is_err (answer row)) rows ≡ k)
fault_here answer [] k d fault small fits refused = absurd (omega (arith, small))
fault_here answer (row ∷ rows) zero d fault small fits refused = grind (arith, is_err, position_or_len)
fault_here answer (row ∷ rows) (suc k) d fault small fits refused = of_row (answer row) fits (λ before. fault_here answer rows k d fault (omega (arith, small)) before refused) where
  of_row : (one : Result ℤ StoreFault) → at_row row one (first_round_fault answer (take k rows)) ≡ Ok tt
      → (first_round_fault answer (take k rows) ≡ Ok tt → (first_round_fault answer rows ≡ Err (record { row = get_or rows k d; fault = fault })) × (position_or_len (λ row. is_err (answer row)) rows ≡ k))
      → (at_row row one (first_round_fault answer rows) ≡ Err (record { row = get_or rows k d; fault = fault })) × (cond (not (is_err one)) (1 + position_or_len (λ row. is_err (answer row)) rows) 0 ≡ suc k)
  of_row (Ok kept) fits rest = ((rest fits).0, omega (arith, (rest fits).1))
  of_row (Err other) fits rest = absurd (cc)

-- ---- columns

-- the same entries make the same column
pub column_same : (leaf : ℕ) (one other : ℕ → ℤ) (numbers : List ℕ) (rows : List (List ℤ)) → ((row : ℕ) → Contains numbers row → one row ≡ other row)
    → with_entries leaf one numbers rows ≡ with_entries leaf other numbers rows
column_same leaf one other [] rows same = refl
column_same leaf one other (number ∷ numbers) rows same =
    ap (λ (value : ℤ). with_entries leaf one numbers (with_entry rows number leaf value)) (same number (0, omega arith, refl))
    ∙ column_same leaf one other numbers (with_entry rows number leaf (other number)) (λ row in_rest. same row (suc in_rest.0, omega (arith, in_rest.1), in_rest.2))
