-- What is written for a value that is stored.
use Rattle.views.proofs.Imports.{◌≡◌, ℕ, ◌<◌, ◌≤◌, List, [], ◌∷◌, length, map, get_or, ℤ, pos, zero, suc, Ok, refl, sym, ap, ◌∙◌, arith, hold_at, with_entry, declared, held, declared_same, fitting_held, fitting_settled, fitting_stays, stays_settled, Strict, answer_stays, stays_answer, strict_kept, told_kept, Fits, kept_or, without_number, Table, answer_of, kept_of, leaf_type_of, table_holds, after_raw, after_stores, after_write, IsSettledIn, Write, Stays}

-- ---- a value that fits

module _ (table : Table) (leaf : ℕ) (value : ℤ) (some : 1 ≤ (hold_at (table_holds table) leaf).width) (fits : Fits (leaf_type_of table leaf) (hold_at (table_holds table) leaf) value) where
  -- it is taken as it is
  pub fit_answer : answer_of table leaf value ≡ Ok value
  fit_answer = grind (arith, stays_answer, fitting_stays)

  pub fit_kept : kept_of table leaf value ≡ value
  fit_kept = ap (kept_or value) fit_answer

  -- and is its own raw number
  pub fit_settled : IsSettledIn table leaf value
  fit_settled = fitting_settled table.mode (leaf_type_of table leaf) (hold_at (table_holds table) leaf) value some fits

  pub fit_declared : declared (leaf_type_of table leaf) value ≡ kept_of table leaf value
  fit_declared = declared_same (leaf_type_of table leaf) value fits.declared ∙ sym fit_kept

-- ---- a value that is taken

module _ (table : Table) (leaf : ℕ) (value : ℤ) (some : 1 ≤ (hold_at (table_holds table) leaf).width) (taken : without_number (answer_of table leaf value) ≡ Ok tt) where
  kept_stays : Stays table.mode (leaf_type_of table leaf) (hold_at (table_holds table) leaf) (kept_of table leaf value)
  kept_stays = grind (arith, answer_stays, told_kept)

  -- what its image says is settled, and stands for what is kept of it
  pub taken_raw : (declared (leaf_type_of table leaf) (held (hold_at (table_holds table) leaf) (kept_of table leaf value)) ≡ kept_of table leaf value)
      × IsSettledIn table leaf (held (hold_at (table_holds table) leaf) (kept_of table leaf value))
  taken_raw = stays_settled table.mode (leaf_type_of table leaf) (hold_at (table_holds table) leaf) (kept_of table leaf value) some kept_stays

  -- in a strict view it is the value itself
  pub strict_raw : table.mode ≡ Strict → held (hold_at (table_holds table) leaf) (kept_of table leaf value) ≡ value
  strict_raw strict = grind (arith, strict_kept, kept_stays, fitting_held)

-- ---- a raw number that is written

pub raw_written : (table : Table) (row leaf : ℕ) (raw value : ℤ) → declared (leaf_type_of table leaf) raw ≡ kept_of table leaf value → after_raw table row leaf raw ≡ after_write table row leaf value
raw_written table row leaf raw value same = ap (λ (v : ℤ). after_stores table (with_entry table.rows row leaf v) (Write row leaf ∷ [])) same

-- values that are left as they are
pub map_same : (f : ℤ → ℤ) (values : List ℤ) → ((k : ℕ) → k < length values → f (get_or values k (pos 0)) ≡ get_or values k (pos 0)) → map f values ≡ values
map_same f [] each = refl
map_same f (value ∷ values) each = ap (λ (v : ℤ). v ∷ map f values) (each zero (omega arith)) ∙ ap (λ (rest : List ℤ). value ∷ rest) (map_same f values (λ k l. each (suc k) (omega (arith, l))))
