-- Values of a leaf and their low bits, and runs of rows.
use Rattle.std.specs.Prelude.{◌≡◌, Bool, true, false, if◌then◌else◌, ℕ, ◌+◌, ◌-◌, ◌^◌, ◌<◌, ◌≤◌, ℤ, pos, neg_ℤ, ◌≤ℤ◌, ◌<ℤ◌, List, [], ◌∷◌, length, map, take, drop, get_or, zero, suc, FitsSigned, refl, nat_le}
use Rattle.views.specs.Imports.{⊎_elim, w64, sym, ap, ◌∙◌, subst, arith, div_ceil, cases_lt, div_ceil_times, of_z-to_z, length-map, length-take, length-drop, get_or-map, get_or-take, get_or-drop, width_of, IsDeclared, LeafType, low_64, IsWithin64, low_same, entry}
use Rattle.record_dim.specs.declared.leaf_type.LeafType.TheVariants as kinds
use Rattle.views.specs.Columns.{in_leaf, column, with_column}
use Rattle.views.specs.ColumnsLaws.{column_there, column_stands}
use Rattle.views.specs.MovesLaws.{with_rows}
use Rattle.views.specs.LeafRuns.{raised, run_steps, AreRowsMoved, CountsNothing}
use Rattle.views.specs.Tables.{Table, after_stores}
use Rattle.views.specs.Tallies.{Access}

-- a value of any leaf has 64 bits
pub declared_within : (kind : LeafType) (value : ℤ) → IsDeclared kind value → IsWithin64 value
declared_within kind value h = grind arith

fits_between : (value : ℤ) → neg_ℤ (pos (2 ^ 63)) ≤ℤ value → value <ℤ pos (2 ^ 63) → FitsSigned w64 value
fits_between value least most = grind arith

-- with a sign, but for the greatest of the widest without one
pub declared_fits : (kind : LeafType) (value : ℤ) → (kind ≡ kinds.U64 → ⊥) → IsDeclared kind value → FitsSigned w64 value
declared_fits kind value other h = grind (arith, fits_between)

-- so it is its own low bits
pub low_declared : (kind : LeafType) (value : ℤ) → (kind ≡ kinds.U64 → ⊥) → IsDeclared kind value → low_64 value ≡ value
low_declared kind value other h = low_same value (declared_fits kind value other h)

-- a value is raised from its low bits
raised_whole : (value : ℤ) → IsDeclared kinds.U64 value → raised kinds.U64 (low_64 value) ≡ value
raised_whole value h = grind (arith, of_z-to_z)

pub raised_low : (kind : LeafType) (value : ℤ) → IsDeclared kind value → raised kind (low_64 value) ≡ value
raised_low kind value h = grind (arith, low_declared, raised_whole)

-- and a value of the type is what it is raised to
pub raised_same : (kind : LeafType) (value : ℤ) → IsDeclared kind value → raised kind value ≡ value
raised_same kind value h = grind arith

-- values that are raised from their low bits, one by one
pub raised_all : (kind : LeafType) (values : List ℤ) → ((k : ℕ) → k < length values → IsDeclared kind (get_or values k (pos 0))) → map (raised kind) (map low_64 values) ≡ values
raised_all kind [] each = refl
raised_all kind (value ∷ values) each =
    ap (λ (v : ℤ). v ∷ map (raised kind) (map low_64 values)) (raised_low kind value (each zero (omega arith)))
    ∙ ap (λ (rest : List ℤ). value ∷ rest) (raised_all kind values (λ k l. each (suc k) (omega (arith, l))))

-- ---- the values of a leaf in a run of rows

-- a value of a run is that of its row
pub run_entry : (leaf first count k : ℕ) (rows : List (List ℤ)) → k < count → first + count ≤ length rows → get_or (take count (drop first (column leaf rows))) k (pos 0) ≡ entry rows (first + k) leaf
run_entry leaf first count k rows below inside = grind (arith, get_or-take, get_or-drop, get_or-map)

pub run_length : (leaf first count : ℕ) (rows : List (List ℤ)) → first + count ≤ length rows → length (take count (drop first (column leaf rows))) ≡ count
run_length leaf first count rows inside = omega (arith, length-take count (drop first (column leaf rows)), length-drop first (column leaf rows), length-map rows (in_leaf leaf), inside)

-- the steps of a run are no more than its rows
pub steps_few : (kind : LeafType) (rows : ℕ) → run_steps kind rows ≤ rows
steps_few kind rows = few (nat_le (width_of kind) 32) where
  few : (narrow : Bool) → div_ceil rows (if narrow then 16 else 8) ≤ rows
  few true = omega (arith, (div_ceil_times rows 16 (omega arith)).1)
  few false = omega (arith, (div_ceil_times rows 8 (omega arith)).1)

-- ---- a run of rows, leaf after leaf

pub no_leaf_moved : (first count : ℕ) (source old : List (List ℤ)) → AreRowsMoved 0 first count source old old
no_leaf_moved first count source old = record { moved = λ row leaf low high few. absurd (omega (arith, few)); stands = λ row leaf below. refl }

-- a leaf more
pub leaf_moved : (leaf first count : ℕ) (source old now : List (List ℤ)) → first + count ≤ length now → first + count ≤ length source
    → ((row : ℕ) → row < length now → leaf < length (get_or now row [])) → AreRowsMoved leaf first count source old now
    → AreRowsMoved (leaf + 1) first count source old (with_column leaf first (take count (drop first (column leaf source))) now)
leaf_moved leaf first count source old now inside from wide so_far =
    let values : List ℤ = take count (drop first (column leaf source)) in
    record {
      moved = λ row other low high few.
          ⊎_elim (λ (less : other < leaf).
          column_stands leaf first row other values now (λ same l. let none : ⊥ = absurd (omega (arith, same, less)) in none) ∙ so_far.moved row other low high less)
          (λ (more : leaf ≤ other).
          let same : other ≡ leaf = omega (arith, few, more) in
          let k : ℕ = row - first in
          let at : first + k ≡ row = omega (arith, low) in
          let below : k < count = omega (arith, at, high) in
          let there : row < length now = omega (arith, high, inside) in grind (arith, column_there, run_length, run_entry))
          (cases_lt other leaf);
      stands = λ row other below.
          column_stands leaf first row other values now (λ same low. let none : ⊥ = absurd (omega (arith, below, low)) in none) ∙ so_far.stands row other below;
    }

-- ---- run after run

-- the rows before one are those of another table
abbrev pub AreBefore : ℕ → ℕ → List (List ℤ) → List (List ℤ) → Type 0
AreBefore leaves first source new = (row leaf : ℕ) → row < first → leaf < leaves → entry new row leaf ≡ entry source row leaf

pub run_more : (leaves first count : ℕ) (source now new : List (List ℤ)) → AreBefore leaves first source now → AreRowsMoved leaves first count source now new
    → AreBefore leaves (first + count) source new
run_more leaves first count source now new so_far run row leaf below leaf_in = grind (arith, cases_lt)

-- ---- a table that counts nothing

pub stores_quiet : (old now : Table) (rows : List (List ℤ)) (log : List Access) → CountsNothing old → now ≡ with_rows old now.rows → after_stores now rows log ≡ with_rows old rows
stores_quiet old now rows log nothing same = ap (λ (t : Table). after_stores t rows log) same ∙ ap (λ (t : Table). with_rows t rows) (nothing log)

pub nothing_after : (old now : Table) → CountsNothing old → now ≡ with_rows old now.rows → CountsNothing now
nothing_after old now nothing same = subst CountsNothing (sym same) (λ log. ap (λ (t : Table). with_rows t now.rows) (nothing log))
