-- The values of one leaf that have at most 32 bits, a lane at a time.
use Rattle.views.proofs.Imports.{◌≡◌, ℕ, zero, suc, ◌+◌, ◌-◌, ◌<◌, ◌≤◌, List, [], ◌∷◌, ◌++◌, length, take, drop, set, get_or, replicate, ℤ, pos, refl, sym, ap, ◌∙◌, arith, length-append, to_z, of_z, w64, ints, to_z-of_z, get_or-map, length-map, length-replicate, Each1-replicate, Each1, map-range_with_len_more, IsBlock, IsNarrow, narrow_block, narrow_fits, Table, after_log, after_read, Read, after_log-none, after_log-append, in_leaf, column, column_reads, length-take, length-drop, get_or-drop}

-- one lane more, of a list whose first so many numbers are there and the others are 0
lane_more : (values : List ℤ) (lane rest : ℕ) (value : ℤ) → lane < length values → get_or values lane (pos 0) ≡ value
    → set (take lane values ++ replicate (suc rest) (pos 0)) lane value ≡ take (suc lane) values ++ replicate rest (pos 0)
lane_more [] lane rest value inside is = absurd (omega arith)
lane_more (first ∷ values) zero rest value inside is = ap (λ (v : ℤ). v ∷ replicate rest (pos 0)) (sym is)
lane_more (first ∷ values) (suc lane) rest value inside is = ap (λ (more : List ℤ). first ∷ more) (lane_more values lane rest value (omega arith) is)

-- the same, where so many lanes in all are filled
pub lanes_more : (values filled : List ℤ) (lane lanes : ℕ) (value : ℤ) → lane < length values → lane < lanes → get_or values lane (pos 0) ≡ value
    → filled ≡ take lane values ++ replicate (lanes - lane) (pos 0) → set filled lane value ≡ take (lane + 1) values ++ replicate (lanes - (lane + 1)) (pos 0)
lanes_more values filled lane lanes value inside small is so_far =
    let less : lanes - lane ≡ suc (lanes - (lane + 1)) = omega arith in
    let next : suc lane ≡ lane + 1 = omega arith in grind (arith, lane_more)

-- one read more
pub column_read_more : (leaf row lane : ℕ) (old table new : Table) → table ≡ after_log old (column_reads leaf row lane) → new ≡ after_read table (row + lane) leaf
    → new ≡ after_log old (column_reads leaf row (lane + 1))
column_read_more leaf row lane old table new so_far read =
    read ∙ ap (λ (t : Table). after_read t (row + lane) leaf) so_far
    ∙ after_log-append old (column_reads leaf row lane) (Read (row + lane) leaf ∷ [])
    ∙ ap (after_log old) (sym (map-range_with_len_more (λ at. Read at leaf) row lane (row + lane) refl))

-- the value of a lane
pub lane_value : (leaf row lane : ℕ) (rows : List (List ℤ)) → row + lane < length rows → get_or (drop row (column leaf rows)) lane (pos 0) ≡ in_leaf leaf (get_or rows (row + lane) [])
lane_value leaf row lane rows inside = get_or-drop row (column leaf rows) lane (pos 0) ∙ get_or-map (in_leaf leaf) rows (row + lane) [] (pos 0) inside

pub lanes_inside : (leaf row lanes : ℕ) (rows : List (List ℤ)) → row + lanes ≤ length rows → lanes ≤ length (drop row (column leaf rows))
lanes_inside leaf row lanes rows inside = omega (arith, length-drop row (column leaf rows), length-map rows (in_leaf leaf))

pub filled_length : (values : List ℤ) (lane lanes : ℕ) → lane ≤ length values → lane ≤ lanes → length (take lane values ++ replicate (lanes - lane) (pos 0)) ≡ lanes
filled_length values lane lanes inside small = omega (arith, length-append (take lane values) (replicate (lanes - lane) (pos 0)), length-take lane values, length-replicate (lanes - lane) (pos 0))

-- narrow numbers, one of them set
pub narrow_set : (values : List ℤ) (lane : ℕ) (value : ℤ) → Each1 IsNarrow values → IsNarrow value → Each1 IsNarrow (set values lane value)
narrow_set [] lane value narrow more = tt
narrow_set (first ∷ values) zero value narrow more = (more, narrow.1)
narrow_set (first ∷ values) (suc lane) value narrow more = (narrow.0, narrow_set values lane value narrow.1 more)

pub zeros_narrow : (lanes : ℕ) → Each1 IsNarrow (replicate lanes (pos 0))
zeros_narrow lanes = Each1-replicate IsNarrow lanes (pos 0) (omega (arith, ints), omega (arith, ints))

-- the first so many lanes of a load are there
pub record HasLoaded (leaf row lane : ℕ) (old table : Table) (values : List ℤ) : Type 0 where
  pub filled : values ≡ take lane (drop row (column leaf old.rows)) ++ replicate (16 - lane) (pos 0)
  pub narrow : Each1 IsNarrow values
  pub log : table ≡ after_log old (column_reads leaf row lane)

pub nothing_loaded : (leaf row : ℕ) (old : Table) → HasLoaded leaf row 0 old old (replicate 16 (pos 0))
nothing_loaded leaf row old = record { filled = refl; narrow = zeros_narrow 16; log = sym (after_log-none old) }

pub loaded_more : (leaf row lane at : ℕ) (old table new : Table) (values : List ℤ) (value : ℤ) → HasLoaded leaf row lane old table values → lane < 16 → row + lane < length old.rows
    → at ≡ row + lane → value ≡ in_leaf leaf (get_or table.rows at []) → IsNarrow value → new ≡ after_read table at leaf
    → HasLoaded leaf row (lane + 1) old new (set values lane (to_z w64 (of_z w64 value)))
loaded_more leaf row lane at old table new values value loaded small below place is narrow read =
    let kept = to_z-of_z w64 value (narrow_fits value narrow) in
    let rows_same : table.rows ≡ old.rows = ap (λ (t : Table). t.rows) loaded.log in
    let there : get_or (drop row (column leaf old.rows)) lane (pos 0) ≡ value = grind (arith, lane_value) in
    let inside : lane < length (drop row (column leaf old.rows)) = omega (arith, lanes_inside leaf row (lane + 1) old.rows (omega arith)) in
    grind (arith, lanes_more, narrow_set, to_z, of_z, column_read_more)

pub loaded_block : (leaf row lane : ℕ) (old table : Table) (values : List ℤ) → HasLoaded leaf row lane old table values → lane ≤ 16 → row + lane ≤ length old.rows → IsBlock values
loaded_block leaf row lane old table values loaded small inside =
    narrow_block values (ap length loaded.filled ∙ filled_length (drop row (column leaf old.rows)) lane 16 (lanes_inside leaf row lane old.rows inside) small) loaded.narrow
