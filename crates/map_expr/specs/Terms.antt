-- Mapping expressions as terms without pointers, and the terms of the code's values.
use Rattle.std.specs.Prelude.{ℕ, ◌+◌, max, List}
use Rattle.extents.specs.declared.order.Order.{Order}
use Rattle.places.specs.declared.forms.AosForm.{AosForm}
use Rattle.places.specs.declared.forms.SoaForm.{SoaForm}
use Rattle.record_dim.specs.declared.leaf_type.LeafType.{LeafType}
use Rattle.record_dim.specs.declared.path.PathStep.{PathStep}
use Rattle.map_expr.specs.declared.widths.FieldWidth.{FieldWidth}
use Rattle.map_expr.specs.declared.expr.MapExpr.{MapExpr}
use Rattle.map_expr.specs.declared.expr.MapExpr.TheVariants as expr

-- how cells lie; a path is the list of its steps, a name its bytes
pub data Term : Type 0 where
  Aos : AosForm → Order → Term
  Soa : SoaForm → Order → Term
  Aosoa : ℕ → Order → Term
  BitAos : ℕ → List FieldWidth → Order → Term
  BitSoa : ℕ → List FieldWidth → Order → Term
  Split : List PathStep → Term → Term → Term
  Byteswap : Term → Term
  Bytesplit : Term → Term
  Change : LeafType → LeafType → Term → Term
  Count : Term → Term
  Heat : ℕ → Term → Term
  Named : List ℕ → Term

-- the term that an expression of the code stands for
abbrev pub term_of : MapExpr → Term
term_of (expr.Aos form order) = Aos form order
term_of (expr.Soa form order) = Soa form order
term_of (expr.Aosoa lanes order) = Aosoa lanes order
term_of (expr.BitAos width fields order) = BitAos width fields order
term_of (expr.BitSoa width fields order) = BitSoa width fields order
term_of (expr.Split' path p first q rest) = Split path (term_of first) (term_of rest)
term_of (expr.Byteswap' p inner) = Byteswap (term_of inner)
term_of (expr.Bytesplit' p inner) = Bytesplit (term_of inner)
term_of (expr.Change' from to p inner) = Change from to (term_of inner)
term_of (expr.Count' p inner) = Count (term_of inner)
term_of (expr.Heat' granule p inner) = Heat granule (term_of inner)
term_of (expr.Named name) = Named name

-- the number of nodes on the longest way down, without counters
abbrev pub depth_of : Term → ℕ
depth_of (Split path first rest) = max (depth_of first) (depth_of rest) + 1
depth_of (Byteswap inner) = depth_of inner + 1
depth_of (Bytesplit inner) = depth_of inner + 1
depth_of (Change from to inner) = depth_of inner + 1
depth_of (Count inner) = depth_of inner
depth_of (Heat granule inner) = depth_of inner
depth_of _ = 1

-- what is left of it without the counters at its top
abbrev pub uncounted : Term → Term
uncounted (Count inner) = uncounted inner
uncounted (Heat granule inner) = uncounted inner
uncounted term = term
