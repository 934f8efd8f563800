-- What a copy of a table into another view answers, and what it leaves.
use Rattle.std.specs.Prelude.{ℕ, ◌+◌, ◌≡◌, ℤ, List, [], ◌∷◌, ◌++◌, length, take, drop, Option, Some, None, Result, Ok, Err, is_ok, if◌then◌else◌}
use Rattle.views.specs.Prelude.{Table, answer_of, kept_of, leaf_count_of, after_stores, Access, Read, Write, row_accesses, all_accesses, StoreAnswer, kept_rows}
use Rattle.layout_copy.specs.declared.fault.CopyFault.{CopyFault}
use Rattle.layout_copy.specs.declared.fault.CopyFault.TheVariants.{Mismatch, Narrow}

-- a row and a leaf
pub record Spot : Type 0 where
  pub row : ℕ
  pub leaf : ℕ

-- the first leaf of a row, from this one on, that does not take its value
abbrev pub refusing : StoreAnswer → ℕ → List ℤ → Option ℕ
refusing answer leaf [] = None
refusing answer leaf (value ∷ values) = if is_ok (answer leaf value) then refusing answer (leaf + 1) values else Some leaf

-- this leaf of a row, or else what comes later
abbrev pub spot_or : ℕ → Option ℕ → Option Spot → Option Spot
spot_or row (Some leaf) later = Some (record { row = row; leaf = leaf })
spot_or row None later = later

-- the first of these rows, whose numbers begin with this one, that has such a leaf, and the first of its leaves
abbrev pub refused_at : StoreAnswer → ℕ → List (List ℤ) → Option Spot
refused_at answer row [] = None
refused_at answer row (values ∷ rows) = spot_or row (refusing answer 0 values) (refused_at answer (row + 1) rows)

-- one schema and the same extents
abbrev pub AreAlike : Table → Table → Type 0
AreAlike source target = (source.fields ≡ target.fields) × (source.extents ≡ target.extents)

-- a copy of `source` into `old`, which becomes `new`: its rows as they are kept, or those before the first that has a value which is not
-- held
abbrev pub IsCopied : Table → Table → Table → Result Unit CopyFault → Type 0
IsCopied source old new (Ok done) =
    AreAlike source old × (refused_at (answer_of old) 0 source.rows ≡ None)
    × (new ≡ after_stores old (kept_rows (kept_of old) source.rows) (all_accesses Write (leaf_count_of old) (length source.rows)))
IsCopied source old new (Err Mismatch) = (AreAlike source old → ⊥) × (new ≡ old)
IsCopied source old new (Err (Narrow row leaf)) =
    AreAlike source old × (refused_at (answer_of old) 0 source.rows ≡ Some (record { row = row; leaf = leaf }))
    × (new ≡ after_stores old (take row (kept_rows (kept_of old) source.rows) ++ drop row old.rows) (all_accesses Write (leaf_count_of old) row))

-- the reads of the source, which has so many leaves and rows: of all, or up to the leaf of the row that is not held
abbrev pub source_log : ℕ → ℕ → Result Unit CopyFault → List Access
source_log leaves rows (Ok done) = all_accesses Read leaves rows
source_log leaves rows (Err Mismatch) = []
source_log leaves rows (Err (Narrow row leaf)) = all_accesses Read leaves row ++ row_accesses Read (leaf + 1) row
