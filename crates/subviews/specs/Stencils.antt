-- What a stencil makes of the rows of a table, which fault ends it, and which entries it reads and writes.
use Rattle.std.specs.Prelude.{ℕ, zero, suc, ◌+◌, ◌^◌, ◌==◌, ◌&&◌, Bool, ℤ, pos, neg_ℤ, ◌+ℤ◌, ◌*ℤ◌, ◌-ℤ◌, int_div, int_le, nat_lt, List, [], ◌∷◌, ◌++◌, length, map, take, fold, Result, Ok, Err, is_err}
use Rattle.subviews.specs.Imports.{flat_map, range_with_len, position_or_len, list_all, int_eq, pointwise, indices, index_at, entry, with_entry, StoreAnswer, kept_by, Access, Read, Write, Table, answer_of, StoreFault}
use Rattle.subviews.specs.SubViews.{WindowOf, rows_of}
use Rattle.subviews.specs.declared.term.Term.{Term}
use Rattle.subviews.specs.declared.fault.StencilFault.{StencilFault}

-- a term: a leaf, the weight of its entry, and how far away in each dimension the entry lies
pub record Weighted : Type 0 where
  pub weight : ℤ
  pub leaf : ℕ
  pub offsets : List ℤ

abbrev pub weighted : Term → Weighted
weighted term = record { weight = term.weight; leaf = term.leaf; offsets = term.offsets.items }

-- a stencil: its window, the leaf that it sets, its terms, and the divisor of their sum
pub record Stencil : Type 0 where
  pub window : WindowOf
  pub leaf : ℕ
  pub terms : List Weighted
  pub divisor : ℤ

-- ---- one round

-- the components of an index, each so far away
abbrev pub away : List ℕ → List ℤ → List ℤ
away (i ∷ index) (offset ∷ offsets) = (pos i +ℤ offset) ∷ away index offsets
away _ _ = []

-- whether these are the components of an index
abbrev pub is_index : List ℤ → List ℕ → Bool
is_index components index = pointwise int_eq (map pos index) components

-- the row whose index is so far away from that of another; where there is none, the number of rows
abbrev pub row_from : List ℕ → ℕ → List ℤ → ℕ
row_from extents row offsets = position_or_len (is_index (away (index_at extents row) offsets)) (indices extents)

-- a term at a row, and the value of a stencil there: the sum of its terms, divided and cut toward zero
abbrev pub term_value : List ℕ → List (List ℤ) → ℕ → Weighted → ℤ
term_value extents rows row term = term.weight *ℤ entry rows (row_from extents row term.offsets) term.leaf

abbrev pub stencil_value : Stencil → List (List ℤ) → ℕ → ℤ
stencil_value stencil rows row = int_div (fold (λ sum term. sum +ℤ term_value stencil.window.0 rows row term) (pos 0) stencil.terms) stencil.divisor

-- the first row whose answer is a fault, with that fault
abbrev pub at_row : ℕ → Result ℤ StoreFault → Result Unit StencilFault → Result Unit StencilFault
at_row row (Ok kept) rest = rest
at_row row (Err fault) rest = Err (record { row = row; fault = fault })

abbrev pub first_round_fault : (ℕ → Result ℤ StoreFault) → List ℕ → Result Unit StencilFault
first_round_fault answer [] = Ok tt
first_round_fault answer (row ∷ rows) = at_row row (answer row) (first_round_fault answer rows)

-- the same of a stencil: whether the values of the first rows of its window fit
abbrev pub values_fault : StoreAnswer → Stencil → List (List ℤ) → List ℕ → Result Unit StencilFault
values_fault answer stencil rows numbers = first_round_fault (λ row. answer stencil.leaf (stencil_value stencil rows row)) numbers

-- a table with new entries of a leaf in these rows
abbrev pub with_entries : ℕ → (ℕ → ℤ) → List ℕ → List (List ℤ) → List (List ℤ)
with_entries leaf value numbers rows = fold (λ table row. with_entry table row leaf (value row)) rows numbers

-- what a store keeps of the value at a row
abbrev pub new_entry : StoreAnswer → Stencil → List (List ℤ) → ℕ → ℤ
new_entry answer stencil rows row = kept_by answer stencil.leaf (stencil_value stencil rows row)

-- the rows after one round: in each row of the window the leaf is what is kept of the value there, and each value is one over the rows before the
-- round. Where one does not fit, nothing is stored
abbrev pub if_fits : Result Unit StencilFault → List (List ℤ) → Result (List (List ℤ)) StencilFault
if_fits (Ok fits) rows = Ok rows
if_fits (Err fault) rows = Err fault

abbrev pub round : StoreAnswer → Stencil → List (List ℤ) → Result (List (List ℤ)) StencilFault
round answer stencil rows =
    if_fits (values_fault answer stencil rows (rows_of stencil.window)) (with_entries stencil.leaf (new_entry answer stencil rows) (rows_of stencil.window) rows)

-- ---- so many rounds

-- the next round, where none before it had a fault
abbrev pub next_round : StoreAnswer → Stencil → Result (List (List ℤ)) StencilFault → Result (List (List ℤ)) StencilFault
next_round answer stencil (Ok rows) = round answer stencil rows
next_round answer stencil (Err fault) = Err fault

abbrev pub after_rounds : StoreAnswer → Stencil → ℕ → List (List ℤ) → Result (List (List ℤ)) StencilFault
after_rounds answer stencil zero rows = Ok rows
after_rounds answer stencil (suc count) rows = next_round answer stencil (after_rounds answer stencil count rows)

-- ---- its accesses

-- one read a term, of the term's leaf, at a row
abbrev pub term_read : List ℕ → ℕ → Weighted → Access
term_read extents row term = Read (row_from extents row term.offsets) term.leaf

abbrev pub term_reads : Stencil → ℕ → List Access
term_reads stencil row = map (term_read stencil.window.0 row) stencil.terms

-- those of a round: all reads, row by row, and then one write a row
abbrev pub round_reads : Stencil → List ℕ → List Access
round_reads stencil rows = flat_map (term_reads stencil) rows

abbrev pub round_writes : Stencil → List ℕ → List Access
round_writes stencil rows = map (λ row. Write row stencil.leaf) rows

abbrev pub round_log : Stencil → List Access
round_log stencil = round_reads stencil (rows_of stencil.window) ++ round_writes stencil (rows_of stencil.window)

-- those of so many rounds
abbrev pub rounds_log : Stencil → ℕ → List Access
rounds_log stencil count = flat_map (λ number. round_log stencil) (range_with_len 0 count)

-- the rows of a round that are tried: up to the first whose value does not fit
abbrev pub tried_rows : StoreAnswer → Stencil → List (List ℤ) → List ℕ → List ℕ
tried_rows answer stencil rows numbers = take (position_or_len (λ row. is_err (answer stencil.leaf (stencil_value stencil rows row))) numbers + 1) numbers

-- those of so many rounds, and of the next one over these rows, up to the row whose value does not fit
abbrev pub refused_log : StoreAnswer → Stencil → ℕ → List (List ℤ) → List Access
refused_log answer stencil done rows = rounds_log stencil done ++ round_reads stencil (tried_rows answer stencil rows (rows_of stencil.window))

-- ---- which stencils there are

-- an offset lies from -2^32 to 2^32
abbrev pub is_offset : ℤ → Bool
is_offset offset = int_le (neg_ℤ (pos (2 ^ 32))) offset && int_le offset (pos (2 ^ 32))

-- a term has an offset for each dimension, and from each row of the window its entry lies inside the array
abbrev pub reaches : WindowOf → List ℤ → Bool
reaches window offsets =
    (length offsets == length window.0) && (list_all is_offset offsets && list_all (λ row. nat_lt (row_from window.0 row offsets) (length (indices window.0))) (rows_of window))

-- a weight lies from -2^31 to 2^31 - 1, a divisor from 1 to 2^31
abbrev pub is_weight : ℤ → Bool
is_weight weight = int_le (neg_ℤ (pos (2 ^ 31))) weight && int_le weight (pos (2 ^ 31) -ℤ pos 1)

abbrev pub is_divisor : ℤ → Bool
is_divisor divisor = int_le (pos 1) divisor && int_le divisor (pos (2 ^ 31))

-- ---- the same of a table

abbrev pub stenciled : Table → Stencil → ℕ → Result (List (List ℤ)) StencilFault
stenciled table stencil count = after_rounds (answer_of table) stencil count table.rows
