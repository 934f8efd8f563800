-- A short form as it is put together.
use Rattle.std.specs.Prelude.{◌≡◌}
use Rattle.piece_bits.specs.Imports.{Hold}
use Rattle.piece_bits.specs.declared.path.Path.{Path}
use Rattle.piece_bits.specs.declared.short.ShortRule.{ShortRule}
use Rattle.piece_bits.specs.declared.stand.Stand.{Stand}

-- it has the walk of a path, and what stands at its places
pub record IsAlong (path : Path) (stand : Stand) (hold : Hold) (short : ShortRule) : Type 0 where
  pub walk : short.walk ≡ path.walk
  pub lines : short.lines ≡ path.lines
  pub columns : short.columns ≡ path.columns
  pub word : short.word ≡ stand.word
  pub signed : short.field.signed ≡ hold.signed
  pub width : short.field.width ≡ hold.width
  pub blob : short.blob ≡ stand.blob
  pub base : short.base ≡ stand.base
  pub block : short.block ≡ stand.block
  pub lane : short.lane ≡ stand.lane
  pub power : short.power ≡ stand.power
