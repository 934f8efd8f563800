-- The accesses of an update and of a count, in order.
use Rattle.std.specs.Prelude.{ℕ, Bool, true, ℤ, List, [], ◌∷◌, ◌++◌, map, slice_index_or, Option, Some, None, Result, Ok, Err}
use Rattle.row_updates.specs.Imports.{flat_map, range_with_len, Term, outcome_of, index_at, Access, Read, Write, Table, answer_of, StoreAnswer}
use Rattle.row_updates.specs.declared.fault.UpdateFault.{UpdateFault}
use Rattle.row_updates.specs.Rows.{Setting, each, passes, new_value}

-- the reads of an expression on the row of this number, up to its first fault
abbrev pub value_log : ℕ → List ℤ → List ℕ → Term ℕ → List Access
value_log number row index value = map (Read number) (outcome_of row index value).reads

-- those of a filter, where there is one
abbrev pub filter_log : ℕ → List ℤ → List ℕ → Option (Term ℕ) → List Access
filter_log number row index None = []
filter_log number row index (Some filter) = value_log number row index filter

-- what comes after a fault is left out
abbrev pub if_ok : {A : Type 0} → Result A UpdateFault → List Access → List Access
if_ok (Ok x) log = log
if_ok (Err fault) log = []

-- the same where a row does not pass
abbrev pub if_passes : Result Bool UpdateFault → List Access → List Access
if_passes (Ok true) log = log
if_passes _ log = []

-- the reads of right sides in order, up to the first that has a fault or does not fit
abbrev pub sides_log : StoreAnswer → ℕ → List ℤ → List ℕ → List Setting → List Access
sides_log answer number row index [] = []
sides_log answer number row index (set ∷ sets) =
    value_log number row index set.value ++ if_ok (new_value answer number row index set) (sides_log answer number row index sets)

-- one write of each leaf that is set
abbrev pub stores_log : ℕ → List Setting → List Access
stores_log number sets = map (λ set. Write number set.leaf) sets

-- those of a row that is tried: its filter, then its right sides
abbrev pub tried_log : StoreAnswer → Option (Term ℕ) → List Setting → ℕ → List ℤ → List ℕ → List Access
tried_log answer filter sets number row index = filter_log number row index filter ++ if_passes (passes number row index filter) (sides_log answer number row index sets)

-- the stores of a row that is given something
abbrev pub if_given : Result (Option (List ℤ)) UpdateFault → List Access → List Access
if_given (Ok (Some values)) log = log
if_given _ log = []

-- those of a row: its filter, then its right sides, and then its stores
abbrev pub row_log : StoreAnswer → Option (Term ℕ) → List Setting → ℕ → List ℤ → List ℕ → List Access
row_log answer filter sets number row index =
    filter_log number row index filter
    ++ if_passes (passes number row index filter) (sides_log answer number row index sets ++ if_ok (each (new_value answer number row index) sets) (stores_log number sets))

-- those of an update of the first so many rows
abbrev pub rows_log : StoreAnswer → Option (Term ℕ) → List Setting → List ℕ → List (List ℤ) → ℕ → List Access
rows_log answer filter sets extents rows count =
    flat_map (λ number. row_log answer filter sets number (slice_index_or rows number []) (index_at extents number)) (range_with_len 0 count)

-- the same of a view's rows
abbrev pub update_log : Table → Option (Term ℕ) → List Setting → ℕ → List Access
update_log table filter sets count = rows_log (answer_of table) filter sets table.extents table.rows count

-- those of a count over the first so many rows
abbrev pub count_log : Term ℕ → List ℕ → List (List ℤ) → ℕ → List Access
count_log filter extents rows count = flat_map (λ number. value_log number (slice_index_or rows number []) (index_at extents number) filter) (range_with_len 0 count)
