-- Numbers side by side, and one more beside each.
use Rattle.std.specs.Prelude.{ℕ, ◌≡◌, ◌<◌, ℤ, pos, FitsSigned, List, length}
use Rattle.std.specs.List.{slice_index_or}
use mir.Syntax.{w64}
use Rattle.expr_lang.specs.declared.expr.BinOp.{BinOp}
use Rattle.expr_lang.specs.Inner.Exacts.{exact_by}

-- each result of an operator has 64 bits with a sign
abbrev pub AreFit : BinOp → List ℤ → (ℕ → ℤ) → Type 0
AreFit op left right = (k : ℕ) → k < length left → FitsSigned w64 (exact_by op (slice_index_or left k (pos 0)) (right k))

-- these are the results
pub record AreBy (op : BinOp) (left : List ℤ) (right : ℕ → ℤ) (values : List ℤ) : Type 0 where
  pub long : length values ≡ length left
  pub each : (k : ℕ) → k < length left → slice_index_or values k (pos 0) ≡ exact_by op (slice_index_or left k (pos 0)) (right k)
