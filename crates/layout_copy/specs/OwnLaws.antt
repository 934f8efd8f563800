-- Values that a table may hold are taken by it as they are.
use Rattle.std.specs.Prelude.{◌≡◌, ◌+◌, ◌<◌, ℕ, suc, ℤ, pos, List, [], ◌∷◌, length, get_or, None, Ok, refl}
use Rattle.layout_copy.specs.Imports.{ap, subst, arith, length-map, leaves, entry, HasShape, stays_answer, rows_kept, StoreAnswer, AllStay, kept_or, kept_rows, Table, IsTable, table_holds, leaf_count_of, leaf_types_of, answer_of, kept_of}
use Rattle.layout_copy.specs.Copies.{refusing, refused_at}

-- rows of values that are taken are not refused
row_held : (answer : StoreAnswer) (leaf : ℕ) (values : List ℤ)
    → ((k : ℕ) → k < length values → answer (leaf + k) (get_or values k (pos 0)) ≡ Ok (get_or values k (pos 0))) → refusing answer leaf values ≡ None
row_held answer leaf [] all = refl
row_held answer leaf (value ∷ values) all =
    let first : answer leaf value ≡ Ok value = subst (λ (n : ℕ). answer n value ≡ Ok value) (omega arith) (all 0 (omega arith)) in
    rw first (row_held answer (leaf + 1) values (λ k small.
    subst (λ (n : ℕ). answer n (get_or values k (pos 0)) ≡ Ok (get_or values k (pos 0))) (omega arith) (all (suc k) (omega (arith, small)))))

rows_held : (answer : StoreAnswer) (row : ℕ) (rows : List (List ℤ))
    → ((r k : ℕ) → r < length rows → k < length (get_or rows r []) → answer k (entry rows r k) ≡ Ok (entry rows r k)) → refused_at answer row rows ≡ None
rows_held answer row [] all = refl
rows_held answer row (values ∷ rows) all =
    let first : refusing answer 0 values ≡ None = row_held answer 0 values (λ k small.
    let none : 0 + k ≡ k = omega arith in
    rw none (all 0 k (omega arith) small)) in
    rw (first, (rows_held answer (row + 1) rows (λ r k inside small. all (suc r) k (omega (arith, inside)) small))) refl

-- rows of values that a table may hold: it takes each, none is refused, and it keeps them
module _ (table : Table) (rows : List (List ℤ)) (shape : HasShape (length rows) (leaf_count_of table) rows)
    (stay : AllStay table.mode (length rows) (leaf_types_of table) (table_holds table) rows) where
  all_taken : (r k : ℕ) → r < length rows → k < length (get_or rows r []) → answer_of table k (entry rows r k) ≡ Ok (entry rows r k)
  all_taken r k inside small = grind (arith, leaves, length-map, stays_answer)

  pub staying_held : refused_at (answer_of table) 0 rows ≡ None
  staying_held = rows_held (answer_of table) 0 rows all_taken

  pub staying_kept : kept_rows (kept_of table) rows ≡ rows
  staying_kept = rows_kept (kept_of table) rows (λ r k inside small. ap (kept_or (entry rows r k)) (all_taken r k inside small))

-- a table's own rows are such
pub own_held : (table : Table) → IsTable table → refused_at (answer_of table) 0 table.rows ≡ None
own_held table is = staying_held table table.rows is.shape is.stays
