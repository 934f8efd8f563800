-- A view in which a column is stored.
use Rattle.views.proofs.Imports.{◌≡◌, ℕ, zero, suc, ◌+◌, ◌<◌, List, [], ◌∷◌, length, map, get_or, set, ℤ, pos, None, Ok, refl, sym, ap, ◌∙◌, subst, ⊎_elim, arith, cases_eq, get_or-set_same, get_or-set_other, LeafType, kinds_of, Fields, entry, Term, layout_by, holds_by, AreLaid, hold_at, with_column, first_lane_fault, declared, declared_same, StoreMode, declared_row, declared_table, IsSettled, fitting_settled, IsKept, raw_under, table_under, StoreAnswer, Fits, kind_at, without_number}
use Rattle.views.proofs.KeptLaws.{raw_shape, hold_some}
use Rattle.views.proofs.StoreLaws.{map_same}
use Rattle.views.proofs.StoredLaws.{first_taken}

-- where all values of a column are of a kind, and all entries of a table, so are those of the table with the column
column_all : (P : ℕ → ℤ → Type 0) (leaf row : ℕ) (values : List ℤ) (table : List (List ℤ)) (leaves : ℕ)
    → ((r : ℕ) → r < length table → length (get_or table r []) ≡ leaves) → leaf < leaves → ((k : ℕ) → k < length values → P leaf (get_or values k (pos 0)))
    → ((r c : ℕ) → r < length table → c < leaves → P c (entry table r c)) → (r c : ℕ) → r < length table → c < leaves → P c (entry (with_column leaf row values table) r c)
column_all P leaf (suc row) values [] leaves shape leaf_in each all r c below inside = absurd (omega arith)
column_all P leaf (suc row) values (numbers ∷ rows) leaves shape leaf_in each all zero c below inside = all zero c below inside
column_all P leaf (suc row) values (numbers ∷ rows) leaves shape leaf_in each all (suc r) c below inside =
    column_all P leaf row values rows leaves (λ q l. shape (suc q) (omega arith)) leaf_in each (λ q d l m. all (suc q) d (omega arith) m) r c (omega arith) inside
column_all P leaf zero [] rows leaves shape leaf_in each all r c below inside = all r c below inside
column_all P leaf zero (value ∷ values) [] leaves shape leaf_in each all r c below inside = absurd (omega arith)
column_all P leaf zero (value ∷ values) (numbers ∷ rows) leaves shape leaf_in each all zero c below inside =
    ⊎_elim (λ (here : c ≡ leaf).
    subst (λ (x : ℕ). P x (get_or (set numbers leaf value) x (pos 0))) (sym here)
    (subst (P leaf) (sym (get_or-set_same numbers leaf value (pos 0) (omega (arith, shape zero (omega arith))))) (each zero (omega arith))))
    (λ (apart : c ≡ leaf → ⊥). subst (P c) (sym (get_or-set_other numbers leaf c value (pos 0) apart)) (all zero c below inside))
    (cases_eq c leaf)
column_all P leaf zero (value ∷ values) (numbers ∷ rows) leaves shape leaf_in each all (suc r) c below inside =
    column_all P leaf zero values rows leaves (λ q l. shape (suc q) (omega arith)) leaf_in (λ k l. each (suc k) (omega arith)) (λ q d l m. all (suc q) d (omega arith) m) r c (omega arith) inside

-- what a row stands for in which one number is another, and rows in which a column is
declared_set : (kinds : List LeafType) (row : List ℤ) (leaf : ℕ) (value : ℤ) → declared_row kinds (set row leaf value) ≡ set (declared_row kinds row) leaf (declared (kind_at kinds leaf) value)
declared_set [] row leaf value = refl
declared_set (kind ∷ kinds) [] leaf value = refl
declared_set (kind ∷ kinds) (raw ∷ raws) zero value = refl
declared_set (kind ∷ kinds) (raw ∷ raws) (suc leaf) value = ap (λ (rest : List ℤ). declared kind raw ∷ rest) (declared_set kinds raws leaf value)

declared_column : (kinds : List LeafType) (leaf row : ℕ) (values : List ℤ) (rows : List (List ℤ))
    → declared_table kinds (with_column leaf row values rows) ≡ with_column leaf row (map (declared (kind_at kinds leaf)) values) (declared_table kinds rows)
declared_column kinds leaf (suc row) values [] = refl
declared_column kinds leaf (suc row) values (numbers ∷ rows) = ap (λ (more : List (List ℤ)). declared_row kinds numbers ∷ more) (declared_column kinds leaf row values rows)
declared_column kinds leaf zero [] rows = refl
declared_column kinds leaf zero (value ∷ values) [] = refl
declared_column kinds leaf zero (value ∷ values) (numbers ∷ rows) = grind (arith, declared_set, (declared_column kinds leaf zero values rows))

-- fitting values of a leaf are written
module _ {mode : StoreMode} {term : Term} {extents : List ℕ} {fields : Fields} {blobs : List (List ℕ)} (kept : IsKept mode term extents fields blobs) {new : List (List ℕ)} (row leaf : ℕ) (values : List ℤ)
    (leaf_in : leaf < length (kinds_of fields)) (laid : AreLaid (layout_by term extents fields) new)
    (is : raw_under term extents fields new ≡ with_column leaf row values (raw_under term extents fields blobs))
    (fits : (k : ℕ) → k < length values → Fits (kind_at (kinds_of fields) leaf) (hold_at (holds_by term fields) leaf) (get_or values k (pos 0))) where
  pub kept_column : IsKept mode term extents fields new
  kept_column =
      let kinds = kinds_of fields in
      let holds = holds_by term fields in
      let old = raw_under term extents fields blobs in
      let shape = raw_shape kept in
      let some = hold_some kept leaf leaf_in in
      record {
        lawful = kept.lawful;
        paired = kept.paired;
        within = kept.within;
        laid = laid;
        settled = λ r c l m.
            subst (λ (t : List (List ℤ)). IsSettled mode (kind_at kinds c) (hold_at holds c) (entry t r c)) (sym is)
            (column_all (λ d v. IsSettled mode (kind_at kinds d) (hold_at holds d) v) leaf row values old (length kinds)
            (λ q n. shape.leaf_count q (omega (arith, n, shape.row_count))) leaf_in
            (λ k n. fitting_settled mode (kind_at kinds leaf) (hold_at holds leaf) (get_or values k (pos 0)) some (fits k n))
            (λ q d n o. kept.settled q d (omega (arith, n, shape.row_count)) o) r c (omega (arith, l, shape.row_count)) m);
      }

  pub table_column : table_under term extents fields new ≡ with_column leaf row values (table_under term extents fields blobs)
  table_column = grind (arith, declared_column, map_same, declared_same)

-- ---- values that are all taken

pub none_refused : (answer : StoreAnswer) (leaf first : ℕ) (values : List ℤ) → ((k : ℕ) → k < length values → without_number (answer leaf (get_or values k (pos 0))) ≡ Ok tt)
    → first_lane_fault answer leaf first values ≡ None
none_refused answer leaf first [] each = refl
none_refused answer leaf first (value ∷ values) each =
    first_taken first (answer leaf value) (first_lane_fault answer leaf (first + 1) values) (each zero (omega arith))
    ∙ none_refused answer leaf (first + 1) values (λ k l. each (suc k) (omega arith))
