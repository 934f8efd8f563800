-- The laws of slots over one extent, and over two, where a row has a line and a column.
use Rattle.std.proofs.Common.{◌≡◌, ℕ, ◌+◌, ◌-◌, ◌*◌, ◌/◌, ◌%◌, ◌^◌, ◌<◌, ◌≤◌, List, [], ◌∷◌, length, get_or, Some, ap, ◌∙◌, subst, ⊎_elim, arith, lit<}
use Rattle.std.specs.Prelude.{slice_get}
use Rattle.std.specs.Int.{bit_at}
use Rattle.std.proofs.Math.Nat.{pow-le-pow_right, div-one}
use Rattle.std.proofs.lemmas.Bool.{cases_lt}
use Rattle.std.proofs.lemmas.Nat.{div_below, mod_below, div-add-mod', pow_below}
use Rattle.std.proofs.lemmas.Nat.Bits.{same_from_bits}
use Rattle.std.proofs.lemmas.Option.{get_or_from_slice_get}
use Rattle.extents.specs.declared.order.Order.{Order}
use Rattle.extents.specs.declared.order.Order.TheVariants.{Row, Col, Morton}
use Rattle.extents.specs.Indices.{indices, IsInside}
use Rattle.extents.specs.IndicesLaws.{place, slice_get-place, length-indices}
use Rattle.linearize.specs.Slots.{interleaved, digits_for, slot_of, slot_count, index_at, slot_at}
use Rattle.linearize.specs.SlotsLaws.{place_in_is, slot_at_by_rows}
use Rattle.linearize.specs.MortonLaws.{bit_at-interleaved, component_fits, digits_enough}

-- an index inside is that of the row where it stands
index_there : (e i : List ℕ) (row : ℕ) → IsInside e i → place e i ≡ row → index_at e row ≡ i
index_there e i row inside at = grind (arith, get_or_from_slice_get, slice_get, slice_get-place)

-- ---- one extent

pub index_in_line : (n row : ℕ) → row < n → index_at (n ∷ []) row ≡ row ∷ []
index_in_line n row low = index_there (n ∷ []) (row ∷ []) row (low, tt) (omega arith)

row_in_line : (n row : ℕ) → row < length (indices (n ∷ [])) → row < n
row_in_line n row inside = omega (arith, length-indices (n ∷ []))

-- the digits of one component are its own
interleaved_alone : (n : ℕ) → interleaved (n ∷ []) ≡ n
interleaved_alone n =
    same_from_bits (interleaved (n ∷ [])) n (λ k.
    let only : 1 - 1 - k % 1 ≡ 0 = omega arith in
    bit_at-interleaved (n ∷ []) k ∙ ap (λ (d : ℕ). bit_at (get_or (n ∷ []) d 0) (k / 1)) only ∙ ap (bit_at n) (div-one k))

-- every order is the order by rows
pub slot_in_line : (order : Order) (n row : ℕ) → row < length (indices (n ∷ [])) → slot_at order (n ∷ []) row ≡ row
slot_in_line Row n row inside = slot_at_by_rows (n ∷ []) row inside
slot_in_line Col n row inside =
    let low = row_in_line n row inside in
    let here : place (n ∷ []) (row ∷ []) ≡ row = omega arith in
    ap (λ (i : List ℕ). slot_of Col (n ∷ []) i) (index_in_line n row low)
    ∙ place_in_is (n ∷ []) (row ∷ []) row (subst (λ (k : ℕ). slice_get (indices (n ∷ [])) k ≡ Some (row ∷ [])) here (slice_get-place (n ∷ []) (row ∷ []) (low, tt)))
slot_in_line Morton n row inside = ap interleaved (index_in_line n row (row_in_line n row inside)) ∙ interleaved_alone row

-- ---- two extents: lines and columns

module _ (lines columns row : ℕ) (inside : row < length (indices (lines ∷ columns ∷ []))) where
  within : row < lines * columns
  within = omega (arith, length-indices (lines ∷ columns ∷ []))

  -- there are columns
  pub some_columns : 0 < columns
  some_columns = ⊎_elim (λ (z : columns < 1). let none : columns ≡ 0 = omega arith in let w : lines * columns ≡ lines * 0 = ap (λ (n : ℕ). lines * n) none in absurd (omega (arith, within)))
      (λ (h : 1 ≤ columns). let l : 0 < columns = omega arith in l) (cases_lt columns 1)

  pub line_in : row / columns < lines
  line_in = div_below row columns lines some_columns within

  pub column_in : row % columns < columns
  column_in = mod_below row columns some_columns

  -- a row has its line and its column
  pub index_in_lines : index_at (lines ∷ columns ∷ []) row ≡ row / columns ∷ row % columns ∷ []
  index_in_lines =
      let here : place (lines ∷ columns ∷ []) (row / columns ∷ row % columns ∷ []) ≡ row = omega (arith, div-add-mod' row columns) in
      index_there (lines ∷ columns ∷ []) (row / columns ∷ row % columns ∷ []) row (line_in, (column_in, tt)) here

  -- by columns, its slot follows those of all lines of the columns before
  pub slot_by_columns : slot_at Col (lines ∷ columns ∷ []) row ≡ row % columns * lines + row / columns
  slot_by_columns =
      let e : List ℕ = columns ∷ lines ∷ [] in
      let i : List ℕ = row % columns ∷ row / columns ∷ [] in
      let here : place e i ≡ row % columns * lines + row / columns = omega arith in
      ap (λ (i : List ℕ). slot_of Col (lines ∷ columns ∷ []) i) index_in_lines
      ∙ place_in_is e i (row % columns * lines + row / columns) (subst (λ (k : ℕ). slice_get (indices e) k ≡ Some i) here (slice_get-place e i (column_in, (line_in, tt))))

  -- in Morton order its digits are those of its line and its column in turn
  pub slot_by_digits : slot_at Morton (lines ∷ columns ∷ []) row ≡ interleaved (row / columns ∷ row % columns ∷ [])
  slot_by_digits = ap interleaved index_in_lines

  -- where there are few slots in Morton order, line and column have few digits
  module _ (few : slot_count Morton (lines ∷ columns ∷ []) ≤ 2 ^ 24) where
    -- a component has at most 12 digits
    room : 2 ^ digits_for (lines ∷ columns ∷ []) ≤ 2 ^ 12
    room =
        let digits : ℕ = digits_for (lines ∷ columns ∷ []) in
        let all : 2 * digits ≤ 24 = ⊎_elim (λ (h : 24 < 2 * digits). absurd (omega (arith, few, pow_below 24 (2 * digits) h))) (λ (h : 2 * digits ≤ 24). h) (cases_lt 24 (2 * digits)) in
        pow-le-pow_right {n = 2} (lit< tt) (let l : digits ≤ 12 = omega arith in l)

    pub line_narrow : row / columns < 2 ^ 12
    line_narrow =
        let e : List ℕ = lines ∷ columns ∷ [] in
        omega (arith, room, component_fits e (row / columns ∷ row % columns ∷ []) 0 (digits_for e) 0 (line_in, (column_in, tt)) (digits_enough e))

    pub column_narrow : row % columns < 2 ^ 12
    column_narrow =
        let e : List ℕ = lines ∷ columns ∷ [] in
        omega (arith, room, component_fits e (row / columns ∷ row % columns ∷ []) 0 (digits_for e) 1 (line_in, (column_in, tt)) (digits_enough e))
