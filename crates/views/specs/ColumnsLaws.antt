-- Rows in which a leaf has other values, one after another.
use Rattle.std.specs.Prelude.{◌≡◌, ℕ, zero, suc, ◌+◌, ◌<◌, ◌≤◌, List, [], ◌∷◌, length, take, set, get_or, ℤ, pos, refl}
use Rattle.views.specs.Imports.{sym, ap, arith, get_or-set_same, get_or-set_other, entry, with_entry}
use Rattle.views.specs.Columns.{with_column}

-- no value, and one more
pub no_column : (leaf row : ℕ) (rows : List (List ℤ)) → with_column leaf row [] rows ≡ rows
no_column leaf zero rows = refl
no_column leaf (suc row) [] = refl
no_column leaf (suc row) (numbers ∷ rows) = ap (λ (more : List (List ℤ)). numbers ∷ more) (no_column leaf row rows)

pub length-with_column : (leaf row : ℕ) (values : List ℤ) (rows : List (List ℤ)) → length (with_column leaf row values rows) ≡ length rows
length-with_column leaf zero [] rows = refl
length-with_column leaf zero (value ∷ values) [] = refl
length-with_column leaf zero (value ∷ values) (numbers ∷ rows) = ap suc (length-with_column leaf zero values rows)
length-with_column leaf (suc row) values [] = refl
length-with_column leaf (suc row) values (numbers ∷ rows) = ap suc (length-with_column leaf row values rows)

pub entry_more : (leaf row lane at : ℕ) (values : List ℤ) (rows : List (List ℤ)) → lane < length values → at ≡ row + lane → at < length rows
    → with_entry (with_column leaf row (take lane values) rows) at leaf (get_or values lane (pos 0)) ≡ with_column leaf row (take (suc lane) values) rows
entry_more leaf row lane at [] rows inside place below = absurd (omega arith)
entry_more leaf row lane at (value ∷ values) [] inside place below = absurd (omega arith)
entry_more leaf zero zero zero (value ∷ values) (numbers ∷ rows) inside place below = ap (λ (more : List (List ℤ)). set numbers leaf value ∷ more) (sym (no_column leaf zero rows))
entry_more leaf zero zero (suc at) (value ∷ values) (numbers ∷ rows) inside place below = absurd (omega arith)
entry_more leaf zero (suc lane) zero (value ∷ values) (numbers ∷ rows) inside place below = absurd (omega arith)
entry_more leaf zero (suc lane) (suc at) (value ∷ values) (numbers ∷ rows) inside place below = grind (arith, (entry_more leaf zero lane at values rows (omega arith) (omega arith) (omega arith)))
entry_more leaf (suc row) lane zero (value ∷ values) (numbers ∷ rows) inside place below = absurd (omega arith)
entry_more leaf (suc row) lane (suc at) (value ∷ values) (numbers ∷ rows) inside place below = grind (arith, (entry_more leaf row lane at (value ∷ values) rows inside (omega arith) (omega arith)))

-- an entry of the leaf, and one that stands
pub column_there : (leaf first k row : ℕ) (values : List ℤ) (rows : List (List ℤ)) → row ≡ first + k → k < length values → row < length rows → leaf < length (get_or rows row [])
    → entry (with_column leaf first values rows) row leaf ≡ get_or values k (pos 0)
column_there leaf first k row values [] at below inside wide = absurd (omega (arith, inside))
column_there leaf first k row [] (numbers ∷ rows) at below inside wide = absurd (omega (arith, below))
column_there leaf zero zero zero (value ∷ values) (numbers ∷ rows) at below inside wide = get_or-set_same numbers leaf value (pos 0) wide
column_there leaf zero zero (suc row) (value ∷ values) (numbers ∷ rows) at below inside wide = absurd (omega (arith, at))
column_there leaf zero (suc k) zero (value ∷ values) (numbers ∷ rows) at below inside wide = absurd (omega (arith, at))
column_there leaf zero (suc k) (suc row) (value ∷ values) (numbers ∷ rows) at below inside wide =
    column_there leaf zero k row values rows (omega (arith, at)) (omega (arith, below)) (omega (arith, inside)) wide
column_there leaf (suc first) k zero (value ∷ values) (numbers ∷ rows) at below inside wide = absurd (omega (arith, at))
column_there leaf (suc first) k (suc row) (value ∷ values) (numbers ∷ rows) at below inside wide =
    column_there leaf first k row (value ∷ values) rows (omega (arith, at)) below (omega (arith, inside)) wide

pub column_stands : (leaf first row other : ℕ) (values : List ℤ) (rows : List (List ℤ)) → (other ≡ leaf → first ≤ row → ⊥)
    → entry (with_column leaf first values rows) row other ≡ entry rows row other
column_stands leaf (suc first) row other values [] apart = refl
column_stands leaf (suc first) zero other values (numbers ∷ rows) apart = refl
column_stands leaf (suc first) (suc row) other values (numbers ∷ rows) apart = column_stands leaf first row other values rows (λ same low. apart same (omega (arith, low)))
column_stands leaf zero row other [] rows apart = refl
column_stands leaf zero row other (value ∷ values) [] apart = refl
column_stands leaf zero zero other (value ∷ values) (numbers ∷ rows) apart = get_or-set_other numbers leaf other value (pos 0) (λ same. apart same (omega arith))
column_stands leaf zero (suc row) other (value ∷ values) (numbers ∷ rows) apart = column_stands leaf zero row other values rows (λ same low. apart same (omega arith))
