-- How rows become slots: by rows, and over lines and columns.
use Rattle.piece_bits.proofs.Imports.{◌≡◌, ◌≢◌, ℕ, ◌<◌, ◌⊎◌, ⊎_elim, List, [], ◌∷◌, length, get_or, refl, sym, ap, ◌∙◌, subst, arith, Order, Row, Col, Morton, indices, slot_at, slot_at_by_rows, slot_in_line, slot_by_columns, slot_by_digits, IsRowPath}
use Rattle.piece_bits.specs.declared.walk.Walk.TheVariants as walk

-- a list of one or of two numbers
list_of_one : (xs : List ℕ) → length xs ≡ 1 → xs ≡ get_or xs 0 0 ∷ []
list_of_one [] e = absurd (omega arith)
list_of_one (x ∷ []) e = refl
list_of_one (x ∷ y ∷ xs) e = absurd (omega arith)

pub list_of_two : (xs : List ℕ) → length xs ≡ 2 → xs ≡ get_or xs 0 0 ∷ get_or xs 1 0 ∷ []
list_of_two [] e = absurd (omega arith)
list_of_two (x ∷ []) e = absurd (omega arith)
list_of_two (x ∷ y ∷ []) e = refl
list_of_two (x ∷ y ∷ z ∷ xs) e = absurd (omega arith)

-- by rows, or over one extent, a slot is its row
slot_is_row : (order : Order) (extents : List ℕ) (row : ℕ) → (order ≡ Row) ⊎ (length extents ≡ 1) → row < length (indices extents) → row ≡ slot_at order extents row
slot_is_row order extents row either inside =
    ⊎_elim (λ (rows : order ≡ Row). sym (ap (λ (o : Order). slot_at o extents row) rows ∙ slot_at_by_rows extents row inside))
    (λ (one : length extents ≡ 1).
    let is : extents ≡ get_or extents 0 0 ∷ [] = list_of_one extents one in grind (arith, slot_in_line))
    either

pub plain_path : (order : Order) (extents : List ℕ) (power lines columns : ℕ) → (order ≡ Row) ⊎ (length extents ≡ 1) → power ≡ 0
    → IsRowPath order extents power walk.Plain lines columns
plain_path order extents power lines columns either none = grind (arith, slot_is_row)

pub block_path : (order : Order) (extents : List ℕ) (power lines columns : ℕ) → (order ≡ Row) ⊎ (length extents ≡ 1)
    → IsRowPath order extents power walk.Blocks lines columns
block_path order extents power lines columns either = grind (arith, slot_is_row)

-- an order that is neither of the others
by_columns : (order : Order) → order ≢ Row → order ≢ Morton → order ≡ Col
by_columns order one two = grind arith

pub column_path : (order : Order) (extents : List ℕ) (lines columns : ℕ) → extents ≡ lines ∷ columns ∷ [] → order ≢ Row → order ≢ Morton
    → IsRowPath order extents 0 walk.Columns lines columns
column_path order extents lines columns is one two = record {
  some = refl;
  single = λ _. refl;
  slots = λ row inside.
      sym (ap (λ (o : Order). slot_at o extents row) (by_columns order one two) ∙ ap (λ (e : List ℕ). slot_at Col e row) is
      ∙ slot_by_columns lines columns row (subst (λ (e : List ℕ). row < length (indices e)) is inside));
  turned = λ e. cc;
  over = λ e. cc;
}

pub digit_path : (order : Order) (extents : List ℕ) (lines columns : ℕ) → extents ≡ lines ∷ columns ∷ [] → order ≡ Morton
    → IsRowPath order extents 0 walk.Morton lines columns
digit_path order extents lines columns is turned = grind (arith, slot_by_digits)
