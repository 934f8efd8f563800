-- Which byte of which cell each of the cells of bytes is.
use Rattle.std.specs.Prelude.{◌≡◌, ℕ, zero, suc, ◌+◌, ◌-◌, ◌/◌, ◌<◌, ◌≤◌, List, [], ◌∷◌, ◌++◌, map, length, get_or, take, replicate, All, refl}
use Rattle.map_bytes.specs.Imports.{⊎_elim, ap, ◌∙◌, arith, length-append, flat_map, range_with_len, enumerate_from, cases_lt, get_or_append_left, get_or-append-add, length-replicate, take-map, get_or-map-range_with_len, length-map-range_with_len, All-nil, All-append, All-replicate, All-map, sum_by-cons, sum_by_more_le, sum_by, width_of, U8, byte_cells, widths_of, Cell}
use Rattle.map_bytes.specs.Cells.{byte_cells_of, byte_count}

-- how many bytes the cells before this one have
abbrev pub bytes_before : List ℕ → ℕ → ℕ
bytes_before widths cell = sum_by (λ width. width / 8) (take cell widths)

abbrev bytes_in : ℕ × ℕ → List (ℕ × ℕ)
bytes_in cell = map (λ (byte : ℕ). (cell.0, byte)) (range_with_len 0 (cell.1 / 8))

length-bytes_in : (c w : ℕ) → length (bytes_in (c, w)) ≡ w / 8
length-bytes_in c w = length-map-range_with_len {X = ℕ × ℕ} (λ (byte : ℕ). (c, byte)) 0 (w / 8)

at_from : (a : ℕ) (ws : List ℕ) (c j : ℕ) (d : ℕ × ℕ) → c < length ws → j < get_or ws c 0 / 8
    → get_or (flat_map bytes_in (enumerate_from a ws)) (bytes_before ws c + j) d ≡ (a + c, j)
at_from a [] c j d inside low = let never : ⊥ = omega arith in absurd never
at_from a (w ∷ ws) zero j d inside low = grind (arith, length-bytes_in, flat_map, enumerate_from, get_or_append_left, get_or-map-range_with_len)
at_from a (w ∷ ws) (suc c) j d inside low =
    let here : length (bytes_in (a, w)) ≡ w / 8 = length-bytes_in a w in
    let step : bytes_before (w ∷ ws) (suc c) ≡ w / 8 + bytes_before ws c = sum_by-cons (λ (x : ℕ). x / 8) w (take c ws) in
    let place : bytes_before (w ∷ ws) (suc c) + j ≡ length (bytes_in (a, w)) + (bytes_before ws c + j) = omega arith in
    let next : a + 1 + c ≡ a + suc c = omega arith in
    ap (λ (i : ℕ). get_or (flat_map bytes_in (enumerate_from a (w ∷ ws))) i d) place
    ∙ get_or-append-add (bytes_in (a, w)) (flat_map bytes_in (enumerate_from (a + 1) ws)) (bytes_before ws c + j) d
    ∙ at_from (a + 1) ws c j d (omega arith) low
    ∙ ap (λ (x : ℕ). let p : ℕ × ℕ = (x, j) in p) next

-- the cell of a byte, by the cell whose byte it is
pub byte_cell_at : (ws : List ℕ) (c j : ℕ) → c < length ws → j < get_or ws c 0 / 8 → get_or (byte_cells ws) (bytes_before ws c + j) (0, 0) ≡ (c, j)
byte_cell_at ws c j inside low =
    let start : 0 + c ≡ c = omega arith in
    at_from 0 ws c j (0, 0) inside low ∙ ap (λ (x : ℕ). let p : ℕ × ℕ = (x, j) in p) start

-- the cell `n` of bytes is byte `j` of cell `c`
pub record IsByteCell (ws : List ℕ) (n c j : ℕ) : Type 0 where
  pub cell_in : c < length ws
  pub byte_in : j < get_or ws c 0 / 8
  pub place : n ≡ bytes_before ws c + j

-- each cell of bytes is a byte of one of the cells
pub byte_cell_of : (ws : List ℕ) (n : ℕ) → n < sum_by (λ (w : ℕ). w / 8) ws → (c : ℕ) × (j : ℕ) × IsByteCell ws n c j
byte_cell_of [] n inside = let none : n < 0 = inside in let never : ⊥ = omega arith in absurd never
byte_cell_of (w ∷ ws) n inside =
    let step : sum_by (λ (x : ℕ). x / 8) (w ∷ ws) ≡ w / 8 + sum_by (λ (x : ℕ). x / 8) ws = sum_by-cons (λ (x : ℕ). x / 8) w ws in
    ⊎_elim
    (λ (l : n < w / 8).
    let place : n ≡ bytes_before (w ∷ ws) 0 + n = omega arith in
    let first : 0 < length (w ∷ ws) = omega arith in
    (0, n, record { cell_in = first; byte_in = l; place = place }))
    (λ (l : w / 8 ≤ n).
    let later = byte_cell_of ws (n - w / 8) (omega arith) in
    let found : IsByteCell ws (n - w / 8) later.0 later.1 = later.2 in
    let before : bytes_before (w ∷ ws) (suc later.0) ≡ w / 8 + bytes_before ws later.0 = sum_by-cons (λ (x : ℕ). x / 8) w (take later.0 ws) in
    let so_far : n - w / 8 ≡ bytes_before ws later.0 + later.1 = found.place in
    let place : n ≡ bytes_before (w ∷ ws) (suc later.0) + later.1 = omega arith in
    let low : later.0 < length ws = found.cell_in in
    let next : suc later.0 < length (w ∷ ws) = omega arith in
    (suc later.0, later.1, record { cell_in = next; byte_in = found.byte_in; place = place }))
    (cases_lt n (w / 8))

-- the bytes before a cell and in it are within all bytes
pub byte_within : (ws : List ℕ) (c j : ℕ) → c < length ws → j < get_or ws c 0 / 8 → bytes_before ws c + j < sum_by (λ (w : ℕ). w / 8) ws
byte_within ws c j inside low = grind (arith, sum_by, sum_by_more_le)

-- the same of the cells themselves
pub byte_count_is : (cells : List Cell) → byte_count cells ≡ sum_by (λ (w : ℕ). w / 8) (widths_of cells)
byte_count_is [] = refl
byte_count_is (cell ∷ cells) =
    let later : byte_count cells ≡ sum_by (λ (w : ℕ). w / 8) (widths_of cells) = byte_count_is cells in
    let step : byte_count (cell ∷ cells) ≡ width_of cell.kind / 8 + byte_count cells = sum_by-cons (λ (c : Cell). width_of c.kind / 8) cell cells in
    let step' : sum_by (λ (w : ℕ). w / 8) (widths_of (cell ∷ cells)) ≡ width_of cell.kind / 8 + sum_by (λ (w : ℕ). w / 8) (widths_of cells) =
    sum_by-cons (λ (w : ℕ). w / 8) (width_of cell.kind) (widths_of cells) in
    omega arith

pub byte_count_before : (cells : List Cell) (cell : ℕ) → byte_count (take cell cells) ≡ bytes_before (widths_of cells) cell
byte_count_before cells cell = grind (arith, byte_count_is, sum_by, take-map)

pub length-bytes : (cells : List Cell) → length (byte_cells_of cells) ≡ byte_count cells
length-bytes [] = refl
length-bytes (cell ∷ cells) =
    let byte : Cell = record { leaf = cell.leaf; kind = U8 } in
    let n : ℕ = width_of cell.kind / 8 in
    let here : length (replicate n byte) ≡ n = length-replicate n byte in
    let later : length (byte_cells_of cells) ≡ byte_count cells = length-bytes cells in
    let both : length (replicate n byte ++ byte_cells_of cells) ≡ length (replicate n byte) + length (byte_cells_of cells) = length-append (replicate n byte) (byte_cells_of cells) in
    let step : byte_count (cell ∷ cells) ≡ n + byte_count cells = sum_by-cons (λ (c : Cell). width_of c.kind / 8) cell cells in
    omega arith

-- each has 8 bits
bytes_are : (cells : List Cell) → All (λ cell. width_of cell.kind ≡ 8) (byte_cells_of cells)
bytes_are [] = All-nil (λ (c : Cell). width_of c.kind ≡ 8)
bytes_are (cell ∷ cells) = grind (arith, All-append, All-replicate, (bytes_are cells))

pub widths_of_bytes : (cells : List Cell) → All (λ w. w ≡ 8) (widths_of (byte_cells_of cells))
widths_of_bytes cells = All-map (λ (w : ℕ). w ≡ 8) (λ (c : Cell). width_of c.kind) (byte_cells_of cells) (bytes_are cells)
