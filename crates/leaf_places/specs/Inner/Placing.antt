-- A place that says of rows what a short form does.
use Rattle.std.specs.Prelude.{ℕ, ◌≡◌, ◌<◌, Bool, true, false}
use Rattle.piece_bits.specs.Prelude.{start_in, leads}
use Rattle.piece_bits.specs.declared.short.ShortRule.{ShortRule}
use Rattle.piece_bits.specs.declared.word.Word.{Word}
use Rattle.piece_bits.specs.declared.word.Word.TheVariants as stored
use Rattle.leaf_places.specs.Spots.{spot_by}
use Rattle.leaf_places.specs.declared.groups.Groups.{Groups}

-- whether the bytes of what stands at a place are in reverse order, and whether it is a field of bits
abbrev pub turns : Word → Bool
turns stored.TurnedU16 = true
turns stored.TurnedU32 = true
turns stored.TurnedU64 = true
turns stored.TurnedI16 = true
turns stored.TurnedI32 = true
turns stored.TurnedI64 = true
turns _ = false

abbrev pub is_field : Word → Bool
is_field stored.Field = true
is_field _ = false

-- groups lead each of so many rows to where a short form does
pub record AreGroupsOf (short : ShortRule) (rows : ℕ) (groups : Groups) : Type 0 where
  pub leads : leads short.walk ≡ true
  pub some : 0 < groups.lanes
  pub spot : (row : ℕ) → row < rows → spot_by groups.in_digits short.base groups.lanes groups.lane groups.block row ≡ start_in short row
