-- Rules of places in blobs that stand behind others.
use Rattle.std.specs.Prelude.{ℕ, ◌+◌}
use Rattle.places.specs.declared.rule.PieceRule.{PieceRule}

-- a rule of a piece of later blobs, which stand behind `by` others
abbrev pub shifted_rule : ℕ → PieceRule → PieceRule
shifted_rule by rule = record {
  blob = rule.blob + by;
  base = rule.base;
  lanes = rule.lanes;
  block = rule.block;
  lane = rule.lane;
  bits = rule.bits;
  some = rule.some;
}
