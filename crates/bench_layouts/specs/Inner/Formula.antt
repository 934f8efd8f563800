-- The expression that is measured, by the record that it is bound to.
use Rattle.std.specs.Prelude.{◌≡◌, codes}
use Rattle.record_dim.specs.declared.leaf_type.LeafType.TheVariants.{I64}
use Rattle.record_dim.specs.Prelude.{Fields, Single, End, Field}
use Rattle.expr_lang.specs.declared.bound.Bound.{Bound}
use Rattle.expr_lang.specs.Prelude.{bound_leaves, bound_rank}

-- the record
abbrev pub sample_fields : Fields
sample_fields = Field (codes "x") (Single I64) (Field (codes "y") (Single I64) (Field (codes "z") (Single I64) (Field (codes "w") (Single I64) End)))

-- an expression is bound to it, with no dimension
pub record IsFormula (bound : Bound) : Type 0 where
  pub leaves_are : bound_leaves bound ≡ 4
  pub rank_is : bound_rank bound ≡ 0
