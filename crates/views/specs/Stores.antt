-- Which values can be stored in a leaf, and what a store answers.
use Rattle.std.specs.Prelude.{ℕ, ◌<◌, ◌&&◌, Bool, ℤ, int_le, List, length, map, if◌then◌else◌, Result, Ok, Err}
use Rattle.views.specs.Imports.{enumerate_from, LeafType, least_of, greatest_of, least_in, greatest_in, Hold, entry, hold_at, kept, StoreMode, Strict, Wrap}
pub use Rattle.piece_bits.specs.Prelude.{kind_at, Fits, Stays}
use Rattle.views.specs.declared.fault.StoreFault.{StoreFault}
use Rattle.views.specs.declared.fault.StoreFault.TheVariants.{Range, Narrow}

-- whether a value lies between two numbers, both included
abbrev pub is_between : ℤ → ℤ → ℤ → Bool
is_between least greatest value = int_le least value && int_le value greatest

-- the answer to a store in a strict view: the value itself, or `Range` outside of the declared range, `Narrow` inside it and outside of the
-- hold's range; any other view keeps of each value the low bits that fit
abbrev pub store_answer : StoreMode → LeafType → Hold → ℤ → Result ℤ StoreFault
store_answer Wrap kind hold value = Ok (kept kind hold value)
store_answer Strict kind hold value =
    if is_between (least_of kind) (greatest_of kind) value
    then (if is_between (least_in hold.signed hold.width) (greatest_in hold.signed hold.width) value then Ok value else Err Narrow)
    else Err Range

-- what a store of a value in a leaf answers
abbrev pub StoreAnswer : Type 0
StoreAnswer = ℕ → ℤ → Result ℤ StoreFault

-- the number that an answer keeps, and the value itself where it is a refusal
abbrev pub kept_or : ℤ → Result ℤ StoreFault → ℤ
kept_or value (Ok kept) = kept
kept_or value (Err fault) = value

-- the number that a store of a value in a leaf keeps
abbrev pub Keeping : Type 0
Keeping = ℕ → ℤ → ℤ

abbrev pub kept_by : StoreAnswer → Keeping
kept_by answer leaf value = kept_or value (answer leaf value)

-- the same of the values of a row, and of rows
abbrev pub kept_row : Keeping → List ℤ → List ℤ
kept_row keep values = map (λ value. keep value.0 value.1) (enumerate_from 0 values)

abbrev pub kept_rows : Keeping → List (List ℤ) → List (List ℤ)
kept_rows keep rows = map (kept_row keep) rows

-- an answer without its number
abbrev pub without_number : Result ℤ StoreFault → Result Unit StoreFault
without_number (Ok kept) = Ok tt
without_number (Err fault) = Err fault

-- every value of a table is one that a view of this mode holds
abbrev pub AllStay : StoreMode → ℕ → List LeafType → List Hold → List (List ℤ) → Type 0
AllStay mode rows kinds holds table =
    (row leaf : ℕ) → row < rows → leaf < length kinds → Stays mode (kind_at kinds leaf) (hold_at holds leaf) (entry table row leaf)
