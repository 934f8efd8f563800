-- A layout by rows over the slots of an order: which it is, and its limits.
use Rattle.map_checks.proofs.Imports.{◌≡◌, ℕ, List, length, sum_by, sym, ap, ◌∙◌, arith, Owner, in_rows, widths_of, IsTooBig, Cell, row_at, slot_count, Order, ordered, sum-blobs}

module _ (layout : ℕ → List ℕ → List (List Owner)) (order : Order) (extents : List ℕ) (cells : List Cell) (slots : ℕ) (counted : slots ≡ slot_count order extents) where
  abbrev wanted : List (List Owner)
  wanted = ordered order extents (λ n. layout n (widths_of cells))

  pub by_rows : in_rows (row_at order extents) (layout slots (widths_of cells)) ≡ wanted
  by_rows = ap (λ (n : ℕ). in_rows (row_at order extents) (layout n (widths_of cells))) counted

  same_bits : sum_by length wanted ≡ sum_by length (layout slots (widths_of cells))
  same_bits = ap (λ (l : List (List Owner)). sum_by length l) (sym by_rows) ∙ sum-blobs (row_at order extents) (layout slots (widths_of cells))

  -- it is over a limit where the layout by slots is
  pub over : IsTooBig slots (layout slots (widths_of cells)) → IsTooBig (slot_count order extents) wanted
  over big = grind (arith, same_bits)

  pub within : (IsTooBig slots (layout slots (widths_of cells)) → ⊥) → IsTooBig (slot_count order extents) wanted → ⊥
  within fits big = grind (arith, same_bits)
