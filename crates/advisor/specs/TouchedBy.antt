-- By which accesses a granule is touched.
use Rattle.std.specs.Prelude.{◌≡◌, ℕ, ◌<◌, Bool, true, List, [], get_or}
use Rattle.advisor.specs.Imports.{Owner, is_hot}
use Rattle.advisor.specs.Touched.{holds_bit}

-- an access to a cell that passes a test, and touches a granule of a blob
pub record IsHotAccess (layout : List (List Owner)) (test : ℕ → Bool) (granule blob at row cell : ℕ) : Type 0 where
  pub passes : test cell ≡ true
  pub hot : is_hot layout granule row cell blob at ≡ true

-- a granule is touched exactly where the access to some such cell in some row touches it
pub record IsTouchedBy (layout : List (List Owner)) (slots cells : ℕ) (test : ℕ → Bool) (granule blob at : ℕ) : Type 0 where
  pub some : holds_bit test granule (get_or layout blob []) at ≡ true → (row : ℕ) × (cell : ℕ) × (row < slots) × (cell < cells) × IsHotAccess layout test granule blob at row cell
  pub only : (row cell : ℕ) → IsHotAccess layout test granule blob at row cell → holds_bit test granule (get_or layout blob []) at ≡ true
