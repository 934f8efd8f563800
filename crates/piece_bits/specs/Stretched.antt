-- Numbers in the rows of a stretch, as a short form says that they are stored.
use Rattle.std.specs.Prelude.{ℕ, zero, suc, ◌≡◌, ◌+◌, ◌*◌, ◌^◌, ◌<◌, ◌≤◌, ℤ, pos, List, FitsSigned, length, slice_index_or}
use mir.Syntax.{w64}
use Rattle.piece_bits.specs.Imports.{bit_at, number, digit, decoded, bit_of}
use Rattle.piece_bits.specs.Words.{word_bit, word_place, word_signed, word_width, IsPlaceWord}
use Rattle.piece_bits.specs.declared.field.Field.{Field}
use Rattle.piece_bits.specs.declared.word.Word.{Word}
use Rattle.piece_bits.specs.Stretches.{stretch_place}
use Rattle.piece_bits.specs.declared.short.ShortRule.{ShortRule}
use Rattle.piece_bits.specs.declared.stretch.Spread.TheVariants.{Digits}
use Rattle.piece_bits.specs.declared.stretch.Stretch.{Stretch}
use Rattle.piece_bits.specs.Lows.{low_64}

-- the number that a word at a place of some bytes says
abbrev pub number_at : Word → Field → List ℕ → ℕ → ℤ
number_at word field bytes place =
    decoded (word_signed word field) (word_width word field) (number (λ k. bit_of bytes (word_place word place k)) (word_width word field))

-- the number in a row of a stretch
abbrev pub stretched_at : ShortRule → Stretch → List ℕ → ℕ → ℤ
stretched_at short stretch bytes k = number_at short.word short.field bytes (stretch_place stretch k)

-- the rows of a stretch stand within so many bytes, each at one place
pub record StretchFits (short : ShortRule) (stretch : Stretch) (bytes : ℕ) : Type 0 where
  pub form : IsPlaceWord short.word short.field
  pub digits : stretch.spread ≡ Digits → stretch.rows ≤ 16
  pub places : (k : ℕ) → k < stretch.rows → stretch_place stretch k < 2 ^ 64
  pub room : (k : ℕ) → k < stretch.rows → word_bit short.word (stretch_place stretch k) + word_width short.word short.field ≤ 8 * bytes

-- the numbers in the first so many rows stand in a list, from a place on
pub record HaveRead (short : ShortRule) (stretch : Stretch) (bytes : List ℕ) (at done : ℕ) (old values : List ℤ) : Type 0 where
  pub count : length values ≡ length old
  pub before : (k : ℕ) → k < at → slice_index_or values k (pos 0) ≡ slice_index_or old k (pos 0)
  pub each : (k : ℕ) → k < done → slice_index_or values (at + k) (pos 0) ≡ low_64 (stretched_at short stretch bytes k)

-- the first so many of eight numbers that lie evenly from a place on are a list
pub record HaveEight (word : Word) (field : Field) (bytes : List ℕ) (first apart done : ℕ) (numbers : List ℤ) : Type 0 where
  pub count : length numbers ≡ 8
  pub each : (j : ℕ) → j < done → slice_index_or numbers j (pos 0) ≡ low_64 (number_at word field bytes (first + j * apart))

-- those in all rows do
abbrev pub AreRead : ShortRule → Stretch → List ℕ → ℕ → List ℤ → List ℤ → Type 0
AreRead short stretch bytes at old values = HaveRead short stretch bytes at stretch.rows old values

-- the bits at a place are those of a number of 64 bits with a sign, as many as a word has, and all others are as they were
pub record IsWordPut (word : Word) (field : Field) (place : ℕ) (value : ℤ) (old new : List ℕ) : Type 0 where
  pub fits : FitsSigned w64 value
  pub inside : (k : ℕ) → k < word_width word field → bit_of new (word_place word place k) ≡ bit_at (number (digit value) (word_width word field)) k
  pub before : (k : ℕ) → k < word_bit word place → bit_of new k ≡ bit_of old k
  pub after : (k : ℕ) → word_bit word place + word_width word field ≤ k → bit_of new k ≡ bit_of old k
  pub len : length new ≡ length old

-- those in the first so many rows are put, one after another, from a place of a list on
abbrev pub ArePut : ShortRule → Stretch → List ℤ → ℕ → ℕ → List ℕ → List ℕ → Type 0
ArePut short stretch values at zero old new = new ≡ old
ArePut short stretch values at (suc k) old new =
    (between : List ℕ) × ArePut short stretch values at k old between
    × IsWordPut short.word short.field (stretch_place stretch k) (slice_index_or values (at + k) (pos 0)) between new
