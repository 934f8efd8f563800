-- A leaf in a row that is read by one load of eight bytes.
use Rattle.views.proofs.Imports.{◌≡◌, ℕ, ◌+◌, ◌*◌, ◌/◌, ◌≤◌, true, ◌||◌, nat_eq, inl, inr, ⊎_elim, List, [], length, get_or, sym, ◌∙◌, arith, cases_lt, get_or_past, number, decoded, number_same, Owner, bit_of, IsTurned, AreLaid, word_place, word_signed, word_width, Field, Word, leads, walks_plain, walks_in_blocks, is_turned_width, IsAsWhole, AreReadWide, ShortRule, Walk, Wide, or_cases}
use Rattle.piece_bits.specs.declared.word.Word.TheVariants as stored

-- rows that go in one array, or in blocks, have places
pub plain_leads : (way : Walk) → walks_plain way ≡ true → leads way ≡ true
plain_leads way e = grind arith

pub blocks_lead : (way : Walk) → walks_in_blocks way ≡ true → leads way ≡ true
blocks_lead way e = grind arith

-- the bytes of a blob, where those outside of the list have none
pub bytes_laid : (layout : List (List Owner)) (blobs : List (List ℕ)) (blob : ℕ) → AreLaid layout blobs → 8 * length (get_or blobs blob []) ≡ length (get_or layout blob [])
bytes_laid layout blobs blob laid = grind (arith, get_or_past, cases_lt)

-- the rows of a leaf, by the bytes that its blob has
pub wide_seen : {layout : List (List Owner)} {blobs : List (List ℕ)} {short : ShortRule} {wide : Wide} → AreLaid layout blobs
    → ((bytes : ℕ) → 8 * bytes ≡ length (get_or layout short.blob []) → AreReadWide short bytes wide) → AreReadWide short (length (get_or blobs short.blob [])) wide
wide_seen {layout} {blobs} {short} {wide} laid h = h (length (get_or blobs short.blob [])) (bytes_laid layout blobs short.blob laid)

-- there is room for a load where there is room in the blob
pub room_at : (bytes bytes' : List ℕ) (place start : ℕ) → bytes ≡ bytes' → start ≡ place → place + 8 ≤ length bytes' → start + 8 ≤ length bytes
room_at bytes bytes' place start same at room = grind arith

pub room_by_bit : (bytes bytes' : List ℕ) (place start : ℕ) → bytes ≡ bytes' → start ≡ place → place / 8 + 8 ≤ length bytes' → start / 8 + 8 ≤ length bytes
room_by_bit bytes bytes' place start same at room = grind arith

-- a number that is told by a sign, a width and places is told by a word of these
pub said_by : (word : Word) (field : Field) (bytes : List ℕ) (start : ℕ) (place : ℕ → ℕ) → word_signed word field ≡ field.signed → word_width word field ≡ field.width
    → ((k : ℕ) → word_place word start k ≡ place k) → decoded field.signed field.width (number (λ k. bit_of bytes (place k)) field.width)
    ≡ decoded (word_signed word field) (word_width word field) (number (λ k. bit_of bytes (word_place word start k)) (word_width word field))
said_by word field bytes start place signed wide there = grind (arith, number_same)

pub said_whole : (word : Word) (field : Field) (bytes : List ℕ) (start : ℕ) → IsAsWhole word field
    → decoded field.signed field.width (number (λ k. bit_of bytes (8 * start + k)) field.width)
    ≡ decoded (word_signed word field) (word_width word field) (number (λ k. bit_of bytes (word_place word start k)) (word_width word field))
said_whole word field bytes start h = said_by word field bytes start (λ k. 8 * start + k) h.signed h.wide (h.place start)

pub said_field : (word : Word) (field : Field) (bytes : List ℕ) (start : ℕ) → word ≡ stored.Field
    → decoded field.signed field.width (number (λ k. bit_of bytes (start + k)) field.width)
    ≡ decoded (word_signed word field) (word_width word field) (number (λ k. bit_of bytes (word_place word start k)) (word_width word field))
said_field word field bytes start is = grind (arith, said_by)

pub field_alone : (word : Word) → word ≡ stored.Field → word ≡ stored.Scattered → ⊥
field_alone word is other = let none : stored.Field ≡ stored.Scattered = sym is ∙ other in cc

pub turned_is : (n : ℕ) → is_turned_width n ≡ true → IsTurned n
turned_is n e =
    ⊎_elim (λ (two : nat_eq n 16 ≡ true). inl (same n 16 two))
    (λ others. ⊎_elim (λ (four : nat_eq n 32 ≡ true). inr (inl (same n 32 four))) (λ (eight : nat_eq n 64 ≡ true). inr (inr (same n 64 eight)))
    (or_cases (nat_eq n 32) (nat_eq n 64) others))
    (or_cases (nat_eq n 16) (nat_eq n 32 || nat_eq n 64) e)
  where
    same : (n m : ℕ) → nat_eq n m ≡ true → n ≡ m
    same n m e = grind arith
