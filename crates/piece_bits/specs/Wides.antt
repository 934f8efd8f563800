-- Rows whose value is read by one load of eight bytes, which lie within the blob.
use Rattle.std.specs.Prelude.{ℕ, ◌≡◌, ◌≢◌, ◌+◌, ◌*◌, ◌/◌, ◌<◌, ◌≤◌, Bool, true, nat_eq, ◌||◌}
use Rattle.piece_bits.specs.Imports.{turned_place}
use Rattle.piece_bits.specs.Words.{word_place, word_signed, word_width}
use Rattle.piece_bits.specs.declared.field.Field.{Field}
use Rattle.piece_bits.specs.declared.word.Word.{Word}
use Rattle.piece_bits.specs.declared.word.Word.TheVariants as stored
use Rattle.piece_bits.specs.Shorts.{start_in}
use Rattle.piece_bits.specs.Walks.{walks_plain, walks_in_blocks}
use Rattle.piece_bits.specs.declared.short.ShortRule.{ShortRule}
use Rattle.piece_bits.specs.declared.wide_rules.Wide.{Wide}

-- what stands there is whole bytes, of the sign and the width of a field
pub record IsAsWhole (word : Word) (field : Field) : Type 0 where
  pub alone : word ≢ stored.Scattered
  pub signed : word_signed word field ≡ field.signed
  pub wide : word_width word field ≡ field.width
  pub place : (start k : ℕ) → word_place word start k ≡ 8 * start + k

-- a number of bits that is two, four or eight bytes
abbrev pub is_turned_width : ℕ → Bool
is_turned_width n = nat_eq n 16 || (nat_eq n 32 || nat_eq n 64)

-- it is whole bytes in reverse order
pub record IsAsTurned (word : Word) (field : Field) : Type 0 where
  pub alone : word ≢ stored.Scattered
  pub signed : word_signed word field ≡ field.signed
  pub wide : word_width word field ≡ field.width
  pub place : (start k : ℕ) → word_place word start k ≡ 8 * start + turned_place field.width k
  pub bytes : is_turned_width field.width ≡ true

-- whole bytes stand at the place of a row, by rows
pub record IsWholeWide (short : ShortRule) (bytes row : ℕ) : Type 0 where
  pub walk : walks_plain short.walk ≡ true
  pub word : IsAsWhole short.word short.field
  pub room : start_in short row + 8 ≤ bytes

-- the same in blocks of a power of two
pub record IsBlockWide (short : ShortRule) (bytes row : ℕ) : Type 0 where
  pub walk : walks_in_blocks short.walk ≡ true
  pub word : IsAsWhole short.word short.field
  pub room : start_in short row + 8 ≤ bytes

-- a field of bits, which begins in the first of the eight bytes
pub record IsFieldWide (short : ShortRule) (bytes row : ℕ) : Type 0 where
  pub walk : walks_plain short.walk ≡ true
  pub word : short.word ≡ stored.Field
  pub narrow : short.field.width ≤ 57
  pub room : start_in short row / 8 + 8 ≤ bytes

-- whole bytes in reverse order
pub record IsTurnedWide (short : ShortRule) (bytes row : ℕ) : Type 0 where
  pub walk : walks_plain short.walk ≡ true
  pub word : IsAsTurned short.word short.field
  pub room : start_in short row + 8 ≤ bytes

-- so many rows are read so, where the blob has so many bytes
pub record AreReadWide (short : ShortRule) (bytes : ℕ) (wide : Wide) : Type 0 where
  pub whole : (row : ℕ) → row < wide.whole → IsWholeWide short bytes row
  pub blocks : (row : ℕ) → row < wide.blocks → IsBlockWide short bytes row
  pub field : (row : ℕ) → row < wide.field → IsFieldWide short bytes row
  pub turned : (row : ℕ) → row < wide.turned → IsTurnedWide short bytes row
