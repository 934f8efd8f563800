-- The rows of a table, of which some in line were changed by a kernel.
use Rattle.lane_kernels.proofs.Imports.{◌≡◌, ℕ, zero, suc, ◌+◌, ◌≤◌, List, [], ◌∷◌, ◌++◌, length, take, drop, map, ℤ, Some, None, refl, ap, ◌∙◌, arith, take-append-drop, Keeping, with_column, stored, run_rows, Kernel}

-- as many rows as before
pub rows_count : (keep : Keeping) (kernel : Kernel) (row : ℕ) (rows : List (List ℤ)) → length (run_rows keep kernel row rows) ≡ length rows
rows_count keep kernel zero rows = refl
rows_count keep kernel (suc row) [] = refl
rows_count keep kernel (suc row) (values ∷ rows) = ap suc (rows_count keep kernel row rows)

-- those behind the changed ones stand
pub rows_from : (keep : Keeping) (kernel : Kernel) (row : ℕ) (rows : List (List ℤ)) → drop row (run_rows keep kernel row rows) ≡ drop row rows
rows_from keep kernel zero rows = refl
rows_from keep kernel (suc row) [] = refl
rows_from keep kernel (suc row) (values ∷ rows) = rows_from keep kernel row rows

-- more of them are changed
pub rows_more : (keep : Keeping) (kernel : Kernel) (row step : ℕ) (rows : List (List ℤ)) → row ≤ length rows
    → take row (run_rows keep kernel row rows) ++ run_rows keep kernel step (drop row (run_rows keep kernel row rows)) ≡ run_rows keep kernel (row + step) rows
rows_more keep kernel zero step rows inside = let same : step ≡ 0 + step = omega arith in ap (λ (n : ℕ). run_rows keep kernel n rows) same
rows_more keep kernel (suc row) step [] inside = absurd (omega arith)
rows_more keep kernel (suc row) step (values ∷ rows) inside =
    let next : suc (row + step) ≡ suc row + step = omega arith in grind (arith, (rows_more keep kernel row step rows (omega arith)))

-- a kernel that stores nothing leaves all rows
pub rows_stand : (keep : Keeping) (kernel : Kernel) (row : ℕ) (rows : List (List ℤ)) → ((values : List ℤ) → stored kernel values ≡ None) → run_rows keep kernel row rows ≡ rows
rows_stand keep kernel zero rows none = refl
rows_stand keep kernel (suc row) [] none = refl
rows_stand keep kernel (suc row) (values ∷ rows) none = rw (none values, rows_stand keep kernel row rows none) refl

-- a kernel that stores a value of each row in a leaf
pub record DoesStore (kernel : Kernel) (leaf : ℕ) (value : List ℤ → ℤ) : Type 0 where
  pub stores : (row : List ℤ) → stored kernel row ≡ Some (record { leaf = leaf; value = value row })

first_rows : (keep : Keeping) (kernel : Kernel) (leaf step : ℕ) (value : List ℤ → ℤ) (rows : List (List ℤ)) → DoesStore kernel leaf value
    → with_column leaf 0 (map (keep leaf) (map value (take step rows))) rows ≡ run_rows keep kernel step rows
first_rows keep kernel leaf zero value rows does = refl
first_rows keep kernel leaf (suc step) value [] does = refl
first_rows keep kernel leaf (suc step) value (row ∷ rows) does = grind (arith, (first_rows keep kernel leaf step value rows does))

column_from : (leaf row : ℕ) (values : List ℤ) (rows : List (List ℤ)) → row ≤ length rows → with_column leaf row values rows ≡ take row rows ++ with_column leaf 0 values (drop row rows)
column_from leaf zero values rows inside = refl
column_from leaf (suc row) values [] inside = absurd (omega arith)
column_from leaf (suc row) values (numbers ∷ rows) inside = ap (λ (more : List (List ℤ)). numbers ∷ more) (column_from leaf row values rows (omega arith))

pub rows_stored : (keep : Keeping) (kernel : Kernel) (leaf row step : ℕ) (value : List ℤ → ℤ) (rows : List (List ℤ)) → row ≤ length rows → DoesStore kernel leaf value
    → with_column leaf row (map (keep leaf) (map value (take step (drop row rows)))) rows ≡ take row rows ++ run_rows keep kernel step (drop row rows)
rows_stored keep kernel leaf row step value rows inside does = grind (arith, column_from, first_rows)

-- a kernel that stores none leaves the rows that it comes by
pub rows_passed : (keep : Keeping) (kernel : Kernel) (row step : ℕ) (rows : List (List ℤ)) → ((values : List ℤ) → stored kernel values ≡ None)
    → take row rows ++ run_rows keep kernel step (drop row rows) ≡ rows
rows_passed keep kernel row step rows none = ap (λ (more : List (List ℤ)). take row rows ++ more) (rows_stand keep kernel step (drop row rows) none) ∙ take-append-drop row rows
