-- Which expressions suit the values of a table.
use Rattle.std.specs.Prelude.{ℕ, Bool, false, ℤ, List, Result, Ok, Err}
use Rattle.advisor.specs.Imports.{int_eq, list_all, range_with_len, LeafType, Hold, hold_at, Term, holds_by, StoreMode, column, store_answer, Table, leaf_count_of, leaf_type_of, StoreFault}

-- an answer to a store keeps this value
abbrev pub keeps : ℤ → Result ℤ StoreFault → Bool
keeps value (Ok kept) = int_eq kept value
keeps value (Err fault) = false

-- a store of a value in a leaf that is stored so would keep the value: it fits a strict view, or its low bits are itself
abbrev pub stays : StoreMode → LeafType → Hold → ℤ → Bool
stays mode kind hold value = keeps value (store_answer mode kind hold value)

-- the values of a leaf stay where it is stored so
abbrev pub leaf_stays : Table → ℕ → Hold → Bool
leaf_stays table leaf hold = list_all (stays table.mode (leaf_type_of table leaf) hold) (column leaf table.rows)

-- all values stay where leaves are stored so, each leaf in its own way
abbrev pub all_stay : Table → List Hold → Bool
all_stay table holds = list_all (λ leaf. leaf_stays table leaf (hold_at holds leaf)) (range_with_len 0 (leaf_count_of table))

-- each value of the table suits an expression
unfoldable pub suits : Table → Term → Bool
suits table term = all_stay table (holds_by term table.fields)
