-- Where a call by lines and the command of a script differ: a call makes a table beside no other, and a script beside all of its views.
use Rattle.std.specs.Prelude.{◌≡◌, ◌+◌, ◌*◌, ◌^◌, ◌≤◌}
use Rattle.c_lines.specs.Imports.{ℕ, List, [], Ok, Term, StoreMode, Fields, Table, blob_bits, live_bits, made, Entry}

-- a table that a command makes leaves room for the largest one
abbrev pub TablesLeaveRoom : Type 0
TablesLeaveRoom = (views : List (Entry Table)) (mode : StoreMode) (fields : Fields) (extents : List ℕ) (mapping : Term) (table : Table) →
    made views mode fields extents mapping ≡ Ok table → blob_bits table + 8 * 2 ^ 28 ≤ 8 * 2 ^ 30

-- where there is room for the largest one, a table is made beside views as it is beside none
abbrev pub TablesAgree : Type 0
TablesAgree = (views : List (Entry Table)) (mode : StoreMode) (fields : Fields) (extents : List ℕ) (mapping : Term) →
    live_bits views + 8 * 2 ^ 28 ≤ 8 * 2 ^ 30 → made views mode fields extents mapping ≡ made [] mode fields extents mapping
