-- Raw numbers that the leaves of a view take, and the runs in which they are stored.
use Rattle.std.specs.Prelude.{ℕ, ◌≡◌, ◌+◌, ◌<◌, ◌≤◌, true, ℤ, pos, List, length, take, drop, slice_index_or, is_ok}
use Rattle.blob_file.specs.Imports.{flat_map, range_with_len, entry, hold_at, column, column_writes, raised, kept_rows, Fits, Table, answer_of, kept_of, leaf_count_of, leaf_type_of, table_holds, Access}

-- a leaf takes its number of each of so many rows from one on
abbrev pub IsTakenLeaf : ℕ → ℕ → ℕ → Table → List (List ℤ) → Type 0
IsTakenLeaf leaf first count table rows = (row : ℕ) → first ≤ row → row < first + count → is_ok (answer_of table leaf (entry rows row leaf)) ≡ true

-- each of the first so many leaves does
abbrev pub AreTaken : ℕ → ℕ → ℕ → Table → List (List ℤ) → Type 0
AreTaken leaves first count table rows = (leaf : ℕ) → leaf < leaves → IsTakenLeaf leaf first count table rows

-- each leaf takes its number of each row
abbrev pub IsTaken : Table → List (List ℤ) → Type 0
IsTaken table rows = (row leaf : ℕ) → row < length table.rows → leaf < leaf_count_of table → is_ok (answer_of table leaf (entry rows row leaf)) ≡ true

-- what a view keeps of the numbers of a leaf in so many rows from one on
abbrev pub kept_run : ℕ → ℕ → ℕ → Table → List (List ℤ) → List ℤ
kept_run leaf first count table rows = take count (drop first (column leaf (kept_rows (kept_of table) rows)))

-- a write of each of the first so many leaves in so many rows from one on, leaf after leaf
abbrev pub run_writes : ℕ → ℕ → ℕ → List Access
run_writes leaves first count = flat_map (λ leaf. column_writes leaf first count) (range_with_len 0 leaves)

-- numbers of a leaf, from one row on, that its type and its hold have, by their low bits
abbrev pub AreFitting : ℕ → ℕ → Table → List (List ℤ) → List ℤ → Type 0
AreFitting leaf first table rows lows =
    (k : ℕ) → k < length lows
    → Fits (leaf_type_of table leaf) (hold_at (table_holds table) leaf) (entry rows (first + k) leaf)
    × (raised (leaf_type_of table leaf) (slice_index_or lows k (pos 0)) ≡ entry rows (first + k) leaf)
