-- The leaves of a view, read from a row's fields one after another.
use Rattle.csv_rows.proofs.Imports.{◌≡◌, ℕ, zero, suc, ◌+◌, ◌<◌, ◌≤◌, false, ℤ, List, [], ◌∷◌, length, take, drop, get_or, set, Result, Ok, Err, refl, sym, ap, ◌∙◌, arith, append-nil, at_drop_more, drop_all, take_all, take_more_set, length-map, leaves, LeafType, Truth, Hold, hold_at, StoreMode, Strict, kind_at, kept_row, Table, leaf_count_of, leaf_types_of, table_holds, kept_of, ◌>>=◌, Leaf, with_columns, value_at, row_values, place_of, leaves_in, RowFault}
use Rattle.csv_rows.proofs.KeptRows.{kept_set, length-kept_row}
use Rattle.csv_rows.proofs.Sequences.{behind, behind-behind, one_behind}

abbrev no_leaf : Leaf
no_leaf = record { column = 0; mode = Strict; kind = Truth; hold = record { signed = false; width = 0 } }

joined_length : (mode : StoreMode) (columns : List ℕ) (kinds : List LeafType) (holds : List Hold) → length columns ≡ length kinds → length holds ≡ length kinds → length (with_columns mode columns kinds holds) ≡ length columns
joined_length mode [] kinds holds a b = refl
joined_length mode (column ∷ columns) (kind ∷ kinds) (hold ∷ holds) a b = ap suc (joined_length mode columns kinds holds (omega arith) (omega arith))
joined_length mode columns kinds holds a b = absurd (omega arith)

joined_at : (mode : StoreMode) (columns : List ℕ) (kinds : List LeafType) (holds : List Hold) (i : ℕ) → length columns ≡ length kinds → length holds ≡ length kinds → i < length columns → get_or (with_columns mode columns kinds holds) i no_leaf ≡ record { column = get_or columns i 0; mode = mode; kind = kind_at kinds i; hold = hold_at holds i }
joined_at mode (column ∷ columns) (kind ∷ kinds) (hold ∷ holds) zero a b small = refl
joined_at mode (column ∷ columns) (kind ∷ kinds) (hold ∷ holds) (suc i) a b small = joined_at mode columns kinds holds i (omega arith) (omega arith) (omega arith)
joined_at mode columns kinds holds i a b small = absurd (omega arith)

kinds_count : (seen : Table) → length (leaf_types_of seen) ≡ leaf_count_of seen
kinds_count seen = length-map (leaves seen.fields) (λ leaf. leaf.kind)

-- each leaf is stored in one way
abbrev pub IsPaired : Table → Type 0
IsPaired seen = length (table_holds seen) ≡ length (leaf_types_of seen)

pub leaves_count : (seen : Table) (columns : List ℕ) → IsPaired seen → length columns ≡ leaf_count_of seen → length (leaves_in seen columns) ≡ length columns
leaves_count seen columns paired count = joined_length seen.mode columns (leaf_types_of seen) (table_holds seen) (count ∙ sym (kinds_count seen)) paired

-- the values from a leaf on, of which this is the first
leaf_at : (seen : Table) (columns : List ℕ) (paired : IsPaired seen) (row : ℕ) (fields : List (List ℕ)) (leaf : ℕ) (column : ℕ) (found : Result ℤ RowFault) → length columns ≡ leaf_count_of seen → leaf < length columns → get_or columns leaf 0 ≡ column → value_at (place_of seen row leaf column) fields ≡ found
    → row_values row fields leaf (drop leaf (leaves_in seen columns)) ≡ (found >>= (λ value. row_values row fields (leaf + 1) (drop (leaf + 1) (leaves_in seen columns)) >>= (λ values. Ok (value ∷ values))))
leaf_at seen columns paired row fields leaf column found count small here is =
    let within : leaf < length (leaves_in seen columns) = omega (arith, leaves_count seen columns paired count) in
    at_drop_more (row_values row fields leaf) (leaves_in seen columns) leaf no_leaf within
    ∙ ap (λ (l : Leaf). row_values row fields leaf (l ∷ drop (leaf + 1) (leaves_in seen columns))) (joined_at seen.mode columns (leaf_types_of seen) (table_holds seen) leaf (count ∙ sym (kinds_count seen)) paired small)
    ∙ ap (λ (c : ℕ). value_at (place_of seen row leaf c) fields >>= (λ value. row_values row fields (leaf + 1) (drop (leaf + 1) (leaves_in seen columns)) >>= (λ values. Ok (value ∷ values)))) here
    ∙ ap (λ (f : Result ℤ RowFault). f >>= (λ value. row_values row fields (leaf + 1) (drop (leaf + 1) (leaves_in seen columns)) >>= (λ values. Ok (value ∷ values)))) is

-- one value more, one that is refused, and all
pub leaf_read : (seen : Table) (columns : List ℕ) (paired : IsPaired seen) (row : ℕ) (fields : List (List ℕ)) (leaf column : ℕ) (values : List ℤ) (value : ℤ) → length columns ≡ leaf_count_of seen → leaf < length columns → leaf < length values → get_or columns leaf 0 ≡ column
    → value_at (place_of seen row leaf column) fields ≡ Ok (kept_of seen leaf value)
    → row_values row fields 0 (leaves_in seen columns) ≡ behind (take leaf (kept_row (kept_of seen) values)) (row_values row fields leaf (drop leaf (leaves_in seen columns)))
    → row_values row fields 0 (leaves_in seen columns) ≡ behind (take (leaf + 1) (kept_row (kept_of seen) (set values leaf value))) (row_values row fields (leaf + 1) (drop (leaf + 1) (leaves_in seen columns)))
leaf_read seen columns paired row fields leaf column values value count small room here is before = grind (arith, length-kept_row, leaf_at, one_behind, behind-behind, take_more_set, kept_set)

pub leaf_refused : (seen : Table) (columns : List ℕ) (paired : IsPaired seen) (row : ℕ) (fields : List (List ℕ)) (leaf column : ℕ) (done : List ℤ) (fault : RowFault) → length columns ≡ leaf_count_of seen → leaf < length columns → get_or columns leaf 0 ≡ column → value_at (place_of seen row leaf column) fields ≡ Err fault
    → row_values row fields 0 (leaves_in seen columns) ≡ behind done (row_values row fields leaf (drop leaf (leaves_in seen columns)))
    → row_values row fields 0 (leaves_in seen columns) ≡ Err fault
leaf_refused seen columns paired row fields leaf column done fault count small here is before = before ∙ ap (behind done) (leaf_at seen columns paired row fields leaf column (Err fault) count small here is)

pub leaves_read : (seen : Table) (columns : List ℕ) (paired : IsPaired seen) (row : ℕ) (fields : List (List ℕ)) (leaf : ℕ) (values : List ℤ) → length columns ≡ leaf_count_of seen → length values ≡ leaf_count_of seen → length columns ≤ leaf
    → row_values row fields 0 (leaves_in seen columns) ≡ behind (take leaf (kept_row (kept_of seen) values)) (row_values row fields leaf (drop leaf (leaves_in seen columns)))
    → row_values row fields 0 (leaves_in seen columns) ≡ Ok (kept_row (kept_of seen) values)
leaves_read seen columns paired row fields leaf values count whole over before = grind (arith, leaves_count, length-kept_row, drop_all, append-nil, take_all)
