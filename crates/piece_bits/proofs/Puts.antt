-- Numbers that are put, one after another.
use Rattle.piece_bits.proofs.Imports.{◌≡◌, ℕ, zero, suc, ◌+◌, ◌*◌, ◌≤◌, ◌<◌, List, length, get_or, ℤ, pos, ap, ◌∙◌, arith, word_bit, word_width, Word, stretch_place, AreEven, ShortRule, Stretch, StretchFits, IsWordPut, ArePut}

-- the place of one of eight rows that lie evenly
pub even_place : (stretch : Stretch) (eights eight j first apart : ℕ) → AreEven stretch eights → eight < eights → j < 8 → first ≡ stretch_place stretch (8 * eight) → apart ≡ stretch.apart
    → first + j * apart ≡ stretch_place stretch (8 * eight + j)
even_place stretch eights eight j first apart even inside few is same = grind arith

-- what stands at a place of a row lies within the bytes
pub room_at : (short : ShortRule) (stretch : Stretch) (bytes k place : ℕ) (word : Word) → StretchFits short stretch bytes → k < stretch.rows → word ≡ short.word → place ≡ stretch_place stretch k
    → word_bit word place + word_width word short.field ≤ 8 * bytes
room_at short stretch bytes k place word room inside same there = grind arith

-- what is put changes no length
pub put_length : (short : ShortRule) (stretch : Stretch) (values : List ℤ) (at k : ℕ) (old new : List ℕ) → ArePut short stretch values at k old new → length new ≡ length old
put_length short stretch values at zero old new same = ap (length {A = ℕ}) same
put_length short stretch values at (suc k) old new put = put.2.len ∙ put_length short stretch values at k old put.0 put.1

-- one number more
pub put_more : (short : ShortRule) (stretch : Stretch) (values : List ℤ) (at k place : ℕ) (word : Word) (value : ℤ) (old between new : List ℕ) → ArePut short stretch values at k old between
    → word ≡ short.word → place ≡ stretch_place stretch k → value ≡ get_or values (at + k) (pos 0) → IsWordPut word short.field place value between new → ArePut short stretch values at (k + 1) old new
put_more short stretch values at k place word value old between new before same there is put = grind arith

-- a place of a row lies within the bytes that are left of those of before
pub room_left : (short : ShortRule) (stretch : Stretch) (values : List ℤ) (at k place : ℕ) (word : Word) (old now : List ℕ) → StretchFits short stretch (length old)
    → ArePut short stretch values at k old now → k < stretch.rows → word ≡ short.word → place ≡ stretch_place stretch k
    → word_bit word place + word_width word short.field ≤ 8 * length now
room_left short stretch values at k place word old now room put inside same there = grind (arith, put_length, room_at)
