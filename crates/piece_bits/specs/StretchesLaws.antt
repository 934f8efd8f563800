-- The rows of a stretch have a place that can be worked out.
use Rattle.std.specs.Prelude.{ℕ, ◌+◌, ◌^◌, ◌<◌}
use Rattle.piece_bits.specs.Imports.{arith}
use Rattle.piece_bits.specs.Shorts.{HasStart}
use Rattle.piece_bits.specs.Stretches.{stretch_place, IsStretch}
use Rattle.piece_bits.specs.declared.short.ShortRule.{ShortRule}
use Rattle.piece_bits.specs.declared.stretch.Stretch.{Stretch}

module _ (short : ShortRule) (row most : ℕ) (s : Stretch) (h : IsStretch short row most s) (k : ℕ) (inside : k < s.rows) where
  pub stretch_fits : ((j : ℕ) → j < most → HasStart short (row + j)) → stretch_place s k < 2 ^ 64
  stretch_fits starts = omega (arith, h.place k inside, (starts k (omega (arith, inside, h.few))).fits)
