-- Stretches: rows one after another whose places lie alike far apart.
use Rattle.std.specs.Prelude.{ℕ, ◌≡◌, ◌≢◌, ◌+◌, ◌*◌, ◌<◌, ◌≤◌, true}
use Rattle.piece_bits.specs.declared.word.Word.TheVariants as stored
use Rattle.piece_bits.specs.Shorts.{start_in}
use Rattle.piece_bits.specs.Spreads.{offset_by}
use Rattle.piece_bits.specs.Walks.{leads}
use Rattle.piece_bits.specs.declared.short.ShortRule.{ShortRule}
use Rattle.piece_bits.specs.declared.stretch.Spread.TheVariants as spread
use Rattle.piece_bits.specs.declared.stretch.Stretch.{Stretch}

-- the place of a row of a stretch
abbrev pub stretch_place : Stretch → ℕ → ℕ
stretch_place s k = s.start + offset_by s.spread s.apart k

-- so many times eight rows, from the first on, lie evenly
pub record AreEven (s : Stretch) (eights : ℕ) : Type 0 where
  pub few : 8 * eights ≤ s.rows
  pub place : (eight j : ℕ) → eight < eights → j < 8 → stretch_place s (8 * eight + j) ≡ stretch_place s (8 * eight) + j * s.apart

-- its rows are some from one on, at most so many, and lie where a short form says
pub record IsStretch (short : ShortRule) (row most : ℕ) (s : Stretch) : Type 0 where
  pub leads : leads short.walk ≡ true
  pub alone : short.word ≢ stored.Scattered
  pub some : 0 < s.rows
  pub few : s.rows ≤ most
  pub digits : s.spread ≡ spread.Digits → s.rows ≤ 16
  pub place : (k : ℕ) → k < s.rows → start_in short (row + k) ≡ stretch_place s k
