-- Numbers that are read are of 64 bits.
use Rattle.piece_bits.proofs.Imports.{◌≡◌, ℕ, ◌+◌, ◌*◌, ◌/◌, ◌%◌, ◌<◌, ◌≤◌, Bool, List, length, get_or, set, ℤ, pos, ◌∙◌, subst, ⊎_elim, arith, pow-le-pow_right, cases_eq, length-set, get_or-set_same, get_or-set_other, bit_at-lt, IsIn, number, number_lt, decoded_in, bit_of, word_place, word_signed, word_width, IsPlaceWord, Field, Word, stretch_place, ShortRule, Stretch, low_64, IsWithin64, number_at, stretched_at, HaveEight, HaveRead}

within_of : (signed : Bool) (width : ℕ) (value : ℤ) → 1 ≤ width → width ≤ 64 → IsIn signed width value → IsWithin64 value
within_of signed width value some narrow inside = grind (arith, pow-le-pow_right)

-- a word has from 1 to 64 bits
pub word_some : (word : Word) (field : Field) → IsPlaceWord word field → 1 ≤ word_width word field
word_some word field form = grind arith

pub word_narrow : (word : Word) (field : Field) → IsPlaceWord word field → word_width word field ≤ 64
word_narrow word field form = grind arith

pub number_within : (word : Word) (field : Field) (bytes : List ℕ) (place : ℕ) → IsPlaceWord word field → IsWithin64 (number_at word field bytes place)
number_within word field bytes place form =
    let bits : ℕ → ℕ = λ k. bit_of bytes (word_place word place k) in
    let width : ℕ = word_width word field in
    within_of (word_signed word field) width (number_at word field bytes place) (word_some word field form) (word_narrow word field form)
    (decoded_in (word_signed word field) width (number bits width) (word_some word field form)
    (number_lt bits width (λ k l. bit_at-lt (get_or bytes (word_place word place k / 8) 0) (word_place word place k % 8))))

-- the number at a place of a stretch
pub same_number : (short : ShortRule) (stretch : Stretch) (bytes : List ℕ) (k place : ℕ) (word : Word) (value : ℤ) → word ≡ short.word → place ≡ stretch_place stretch k
    → value ≡ low_64 (number_at word short.field bytes place) → value ≡ low_64 (stretched_at short stretch bytes k)
same_number short stretch bytes k place word value same there is = grind arith

-- one number more
pub one_more : (short : ShortRule) (stretch : Stretch) (bytes : List ℕ) (at done : ℕ) (old values : List ℤ) (value : ℤ) → HaveRead short stretch bytes at done old values → at + done < length old
    → value ≡ low_64 (stretched_at short stretch bytes done) → HaveRead short stretch bytes at (done + 1) old (set values (at + done) value)
one_more short stretch bytes at done old values value have inside is = record {
  count = length-set values (at + done) value ∙ have.count;
  before = λ k below. get_or-set_other values (at + done) k value (pos 0) (λ same. absurd (omega arith)) ∙ have.before k below;
  each = λ k below.
      ⊎_elim
      (λ (here : k ≡ done). grind (arith, get_or-set_same))
      (λ (apart : k ≡ done → ⊥).
      get_or-set_other values (at + done) (at + k) value (pos 0) (λ same. apart (omega (arith, same))) ∙ have.each k (omega (arith, below, apart)))
      (cases_eq k done);
}

-- one number more of eight
pub eight_more : (word : Word) (field : Field) (bytes : List ℕ) (first apart done : ℕ) (numbers : List ℤ) (value : ℤ) → HaveEight word field bytes first apart done numbers → done < 8
    → value ≡ low_64 (number_at word field bytes (first + done * apart)) → HaveEight word field bytes first apart (done + 1) (set numbers done value)
eight_more word field bytes first apart done numbers value have inside is = record {
  count = length-set numbers done value ∙ have.count;
  each = λ j below.
      ⊎_elim
      (λ (here : j ≡ done). grind (arith, get_or-set_same))
      (λ (other : j ≡ done → ⊥). get_or-set_other numbers done j value (pos 0) (λ same. other (omega (arith, same))) ∙ have.each j (omega (arith, below, other)))
      (cases_eq j done);
}

-- one number more where rows go eight at a time
pub one_of_eight : (short : ShortRule) (stretch : Stretch) (bytes : List ℕ) (at eight j : ℕ) (old values : List ℤ) (value : ℤ) → HaveRead short stretch bytes at (8 * eight + j) old values
    → at + (8 * eight + j) < length old → value ≡ low_64 (stretched_at short stretch bytes (8 * eight + j))
    → HaveRead short stretch bytes at (8 * eight + (j + 1)) old (set values (at + 8 * eight + j) value)
one_of_eight short stretch bytes at eight j old values value have inside is =
    subst (λ (n : ℕ). HaveRead short stretch bytes at n old (set values (at + 8 * eight + j) value)) (omega arith)
    (subst (λ (n : ℕ). HaveRead short stretch bytes at (8 * eight + j + 1) old (set values n value)) (omega arith)
    (one_more short stretch bytes at (8 * eight + j) old values value have inside is))
