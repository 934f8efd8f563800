-- The table that is measured.
use Rattle.std.specs.Prelude.{◌≡◌, ℕ, codes, length}
use Rattle.record_dim.specs.declared.leaf_type.LeafType.TheVariants.{I8, I16, I32, I64}
use Rattle.record_dim.specs.Prelude.{Fields, Single, End, Field}
use Rattle.views.specs.Prelude.{Table}

-- its record: 15 bytes in four leaves
abbrev pub measured_fields : Fields
measured_fields = Field (codes "a") (Single I8) (Field (codes "b") (Single I16) (Field (codes "c") (Single I32) (Field (codes "d") (Single I64) End)))

-- a table of this record with so many rows
pub record IsMeasured (rows : ℕ) (table : Table) : Type 0 where
  pub fields : table.fields ≡ measured_fields
  pub long : length table.rows ≡ rows
