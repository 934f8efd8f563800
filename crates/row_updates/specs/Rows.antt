-- What an update makes of the rows of a table, and which fault ends it.
use Rattle.std.specs.Prelude.{ℕ, ◌≡◌, ◌<◌, Bool, true, ℤ, List, [], ◌∷◌, length, count_by, slice_index_or, slice_set, Option, Some, None, option_map, Result, Ok, Err, if◌then◌else◌}
use Rattle.row_updates.specs.Imports.{Bor, range_with_len, EvalFault, Bound, bound_term, bound_leaves, bound_rank, Term, outcome_of, is_true, index_at, Table, leaf_count_of, answer_of, kept_of, StoreAnswer, Keeping, StoreFault}
use Rattle.expr_lang.specs.declared.fault.EvalFault.TheVariants as eval
use Rattle.views.specs.declared.fault.StoreFault.TheVariants as store
use Rattle.row_updates.specs.declared.fault.UpdateFault.{UpdateFault}
use Rattle.row_updates.specs.declared.fault.UpdateKind.{UpdateKind}
use Rattle.row_updates.specs.declared.fault.UpdateKind.TheVariants.{Overflow, DivideByZero, Range, Narrow}
use Rattle.row_updates.specs.declared.update.Assign.{Assign}

-- the number of the leaf that is set, and its new value
pub record Setting : Type 0 where
  pub leaf : ℕ
  pub value : Term ℕ

abbrev pub setting_of : Assign → Setting
setting_of set = record { leaf = set.leaf; value = bound_term set.value }

-- the term of a filter, where there is one
abbrev pub filter_term : Option (Bor Bound) → Option (Term ℕ)
filter_term filter = option_map (λ bound. bound_term bound.now) filter

-- one thing after another: after a fault comes nothing
infixl 10 ◌>>=◌
abbrev pub ◌>>=◌ : {A B : Type 0} → Result A UpdateFault → (A → Result B UpdateFault) → Result B UpdateFault
(Ok x) >>= next = next x
(Err fault) >>= next = Err fault

-- each thing in its turn, and a list of what it gives; the first fault ends it
abbrev pub each : {A B : Type 0} → (A → Result B UpdateFault) → List A → Result (List B) UpdateFault
each step [] = Ok []
each step (x ∷ xs) = do
  y ← step x
  ys ← each step xs
  Ok (y ∷ ys)

-- another's answer, whose fault is one of the row of this number
abbrev pub in_row : {A E : Type 0} → ℕ → (E → UpdateKind) → Result A E → Result A UpdateFault
in_row number kind (Ok x) = Ok x
in_row number kind (Err fault) = Err (record { row = number; kind = kind fault })

abbrev pub eval_kind : EvalFault → UpdateKind
eval_kind eval.Overflow = Overflow
eval_kind eval.DivideByZero = DivideByZero

abbrev pub store_kind : ℕ → StoreFault → UpdateKind
store_kind leaf store.Range = Range leaf
store_kind leaf store.Narrow = Narrow leaf

-- the value of an expression on the row of this number
abbrev pub value_of : ℕ → List ℤ → List ℕ → Term ℕ → Result ℤ UpdateFault
value_of number row index value = in_row number eval_kind (outcome_of row index value).answer

-- whether a row passes the filter; each does where there is none
abbrev pub passes : ℕ → List ℤ → List ℕ → Option (Term ℕ) → Result Bool UpdateFault
passes number row index None = Ok true
passes number row index (Some filter) = do
  value ← value_of number row index filter
  Ok (is_true value)

-- the value of a right side on a row as it stands, tested for its leaf
abbrev pub new_value : StoreAnswer → ℕ → List ℤ → List ℕ → Setting → Result ℤ UpdateFault
new_value answer number row index set = do
  value ← value_of number row index set.value
  kept ← in_row number (store_kind set.leaf) (answer set.leaf value)
  Ok value

-- what a row is given by an update before anything is stored: nothing where it does not pass the filter, and else the values of the right sides
abbrev pub tried_row : StoreAnswer → Option (Term ℕ) → List Setting → ℕ → List ℤ → List ℕ → Result (Option (List ℤ)) UpdateFault
tried_row answer filter sets number row index = do
  test ← passes number row index filter
  if test then (do
    values ← each (new_value answer number row index) sets
    Ok (Some values)) else Ok None

-- a row with the numbers in the leaves that are set that are kept of these values
abbrev pub with_values : Keeping → List Setting → List ℤ → List ℤ → List ℤ
with_values keep (set ∷ sets) (value ∷ values) row = with_values keep sets values (slice_set row set.leaf (keep set.leaf value))
with_values keep _ _ row = row

-- a row with what it is given
abbrev pub given_row : Keeping → List Setting → Option (List ℤ) → List ℤ → List ℤ
given_row keep sets None row = row
given_row keep sets (Some values) row = with_values keep sets values row

-- a row after the update: its right sides are evaluated and tested on the row as it stands, and only then stored
abbrev pub updated_row : StoreAnswer → Keeping → Option (Term ℕ) → List Setting → ℕ → List ℤ → List ℕ → Result (List ℤ) UpdateFault
updated_row answer keep filter sets number row index = do
  test ← passes number row index filter
  if test then (do
    values ← each (new_value answer number row index) sets
    Ok (with_values keep sets values row)) else Ok row

-- the first so many rows after the update
abbrev pub updated_rows : StoreAnswer → Keeping → Option (Term ℕ) → List Setting → List ℕ → List (List ℤ) → ℕ → Result (List (List ℤ)) UpdateFault
updated_rows answer keep filter sets extents rows count =
    each (λ number. updated_row answer keep filter sets number (slice_index_or rows number []) (index_at extents number)) (range_with_len 0 count)

-- the same of a view's rows
abbrev pub updated_of : Table → Option (Term ℕ) → List Setting → ℕ → Result (List (List ℤ)) UpdateFault
updated_of table filter sets count = updated_rows (answer_of table) (kept_of table) filter sets table.extents table.rows count

-- in how many rows the filter is not 0
abbrev pub counted : Term ℕ → List ℕ → List (List ℤ) → Result ℕ UpdateFault
counted filter extents rows = do
  tests ← each (λ number. passes number (slice_index_or rows number []) (index_at extents number) (Some filter)) (range_with_len 0 (length rows))
  Ok (count_by (λ test. test) tests)

-- an expression is bound to the leaves and the rank of a view
pub record IsBoundOver (table : Table) (bound : Bound) : Type 0 where
  pub leaves : bound_leaves bound ≡ leaf_count_of table
  pub rank : bound_rank bound ≡ length table.extents

-- a leaf of a view, and an expression that is bound to it
pub record IsSetOf (table : Table) (set : Assign) : Type 0 where
  pub inside : set.leaf < leaf_count_of table
  pub over : IsBoundOver table set.value
