-- The header in front of bytes: which there is, and that it is the only one.
use Rattle.blob_file.proofs.Imports.{◌≡◌, ℕ, ◌≤◌, Bool, true, false, List, [], ◌∷◌, ◌++◌, length, map, Ok, Option, Some, refl, ap, ◌∙◌, arith, MatchResult, codes, option_map, list_any, and_parts, not-true, take-append-drop, bytes_eq-Decides, NoEnd, Reads, StopsAt, Sentence, New, Define, View, deepest, Version, Two, canonical, line_of, ExtentWord, Fixed, Rows, extent_of, is_rows, Fields, Record, StoreMode, Header, four_bytes, two_lines, is_wrap, record_line, view_line, record_text, view_text, header_text, IsShort, is_nameless, HasLine, HasLines, same_bytes, bytes_to_line_end, line_told, fields_told, is_plain, new_told, mode_by, with_record, header_told, behind_first, behind_size, header_at}
use Rattle.blob_file.proofs.Told.{some_if, if_some, told_some, told_parts, line_is, reads_told}
use Rattle.blob_file.proofs.Cuts.{line_cut, line_parts, lines_behind}

-- ---- words and modes

pub wrap_back : (wrap : Bool) → is_wrap (mode_by wrap) ≡ wrap
wrap_back wrap = grind arith

pub mode_back : (mode : StoreMode) → mode_by (is_wrap mode) ≡ mode
mode_back mode = grind arith

pub extents_back : (extents : List ℕ) → map (extent_of 0) (map Fixed extents) ≡ extents
extents_back [] = refl
extents_back (extent ∷ extents) = ap (λ (ns : List ℕ). extent ∷ ns) (extents_back extents)

pub no_rows : (extents : List ℕ) → list_any is_rows (map Fixed extents) ≡ false
no_rows [] = refl
no_rows (extent ∷ extents) = no_rows extents

pub words_back : (words : List ExtentWord) → list_any is_rows words ≡ false → map Fixed (map (extent_of 0) words) ≡ words
words_back [] none = refl
words_back (Fixed extent ∷ words) none = ap (λ (ws : List ExtentWord). Fixed extent ∷ ws) (words_back words none)
words_back (Rows ∷ words) none = absurd (cc none)

-- ---- what is told of lines

fields_are : (read : Option Sentence) (fields : Fields) → fields_told read ≡ Some fields → read ≡ Some (Define (codes "R") (Record fields))
fields_are read fields e = grind (arith, some_if, bytes_eq-Decides)

new_is : (read : Option Sentence) (new : New) → new_told read ≡ Some new → (read ≡ Some (View new)) × (is_plain new ≡ true)
new_is read new e = grind (arith, some_if)

-- the parts of a view that is plain
pub record IsPlain (new : New) : Type 0 where
  pub named : new.name ≡ codes "V"
  pub over : new.schema ≡ codes "R"
  pub fixed : list_any is_rows new.words ≡ false
  pub nameless : is_nameless new.term ≡ true

pub plain_parts : (new : New) → is_plain new ≡ true → IsPlain new
plain_parts new e = grind (arith, and_parts, list_any, bytes_eq-Decides, not-true)

-- a header of fields and of what makes a view
abbrev pub header_with : Fields → New → Header
header_with fields new = record { fields = fields; extents = map (extent_of 0) new.words; mode = mode_by new.wrap; mapping = new.term }

-- its second line is that of the view
pub view_back : (fields : Fields) (new : New) → IsPlain new → view_line (header_with fields new) ≡ View new
view_back fields new plain = grind (arith, words_back, wrap_back)

both_told : (fields : Option Fields) (new : Option New) (header : Header) → with_record fields new ≡ Some header →
    (f : Fields) × (n : New) × (fields ≡ Some f) × (new ≡ Some n) × (header_with f n ≡ header)
both_told fields new header e = grind arith

-- ---- what stands in front of bytes

-- the two texts and what stands behind them, where bytes have a header in front
pub record HasFront (bytes : List ℕ) (header : Header) (body : List ℕ) : Type 0 where
  pub first : List ℕ
  pub second : List ℕ
  pub is : bytes ≡ four_bytes (length (two_lines first second)) ++ (two_lines first second ++ body)
  pub told : header_told first second ≡ Some header

with_rest : (told : Option Header) (rest : List ℕ) (header : Header) (body : List ℕ) → option_map {U = Header × List ℕ} (λ h. (h, rest)) told ≡ Some (header, body) → (told ≡ Some header) × (rest ≡ body)
with_rest told rest header body e = grind arith

second_cut : (size first : List ℕ) (o : Option (List ℕ × List ℕ)) (header : Header) (body : List ℕ) → behind_first size first o ≡ Some (header, body) →
    (second : List ℕ) × (o ≡ Some (second, body)) × (size ≡ four_bytes (length (two_lines first second))) × (header_told first second ≡ Some header)
second_cut size first o header body e = grind (arith, if_some, option_map, with_rest, bytes_eq-Decides)

first_cut : (size : List ℕ) (o : Option (List ℕ × List ℕ)) (header : Header) (body : List ℕ) → behind_size size o ≡ Some (header, body) →
    (first : List ℕ) × (rest : List ℕ) × (o ≡ Some (first, rest)) × (behind_first size first (bytes_to_line_end rest) ≡ Some (header, body))
first_cut size o header body e = grind arith

pub front_is : (bytes : List ℕ) (header : Header) (body : List ℕ) → header_at bytes ≡ Some (header, body) → HasFront bytes header body
unfolding header_at
front_is bytes header body e = grind (arith, first_cut, second_cut, line_parts, take-append-drop, lines_behind)

-- the texts of which a header is told are its own
pub record AreTexts (first second : List ℕ) (header : Header) : Type 0 where
  pub first_is : first ≡ record_text header
  pub second_is : second ≡ view_text header
  pub short : IsShort header
  pub nameless : is_nameless header.mapping ≡ true
  pub of_record : line_of Two first ≡ Ok (record_line header)
  pub of_view : line_of Two second ≡ Ok (view_line header)

pub texts_are : (first second : List ℕ) (header : Header) → header_told first second ≡ Some header → AreTexts first second header
texts_are first second header e =
    let parts = both_told (fields_told (line_told first)) (new_told (line_told second)) header e in
    let fields = parts.0 in
    let new = parts.1 in
    let one = told_parts first (Define (codes "R") (Record fields)) (fields_are (line_told first) fields parts.2) in
    let view = new_is (line_told second) new parts.3 in
    let two = told_parts second (View new) view.0 in
    let plain = plain_parts new view.1 in
    let back : view_line (header_with fields new) ≡ View new = view_back fields new plain in
    let second_is : canonical (view_line (header_with fields new)) ≡ second = ap canonical back ∙ two.3 in grind arith

-- by what the grammar says of texts
module _ (one_reading : (version : Version) (text : List ℕ) (a b : Sentence) → Reads version text a → Reads version text b → a ≡ b)
    (law : (version : Version) (text : List ℕ) → MatchResult (line_of version text) (Reads version text) (StopsAt version text)) where
  pub lines_are : (first second : List ℕ) (header : Header) → AreTexts first second header → HasLines header
  lines_are first second header texts = grind (arith, reads_told)

  -- and the texts of a header tell it
  module _ (reads_back : (version : Version) (text : List ℕ) (sentence : Sentence) → Reads version text sentence → deepest sentence ≤ 32 → Reads version (canonical sentence) sentence)
      (one_line : (version : Version) (text : List ℕ) (sentence : Sentence) → Reads version text sentence → deepest sentence ≤ 32 → NoEnd (canonical sentence)) where
    line_back : (sentence : Sentence) → HasLine sentence → deepest sentence ≤ 32 → length (canonical sentence) ≤ 4096 → line_told (canonical sentence) ≡ Some sentence
    line_back sentence line low short =
        told_some (canonical sentence) sentence short (line_is one_reading law (canonical sentence) sentence (reads_back Two line.0 sentence line.1 low)) low
        ((bytes_eq-Decides (canonical sentence) (canonical sentence)).1 refl)

    plain_view : (header : Header) → is_nameless header.mapping ≡ true → new_told (Some (view_line header)) ≡ Some (record { name = codes "V"; schema = codes "R"; words = map Fixed header.extents; wrap = is_wrap header.mode; term = header.mapping })
    plain_view header nameless = rw (no_rows header.extents, nameless) refl

    pub header_back : (header : Header) → IsShort header → HasLines header → header_told (record_text header) (view_text header) ≡ Some header
    header_back header short lines = grind (arith, line_back, plain_view, extents_back, mode_back)

    pub front_back : (header : Header) (body : List ℕ) → IsShort header → HasLines header →
        header_at (four_bytes (length (header_text header)) ++ (header_text header ++ body)) ≡ Some (header, body)
    unfolding header_at
    front_back header body short lines =
        let size = four_bytes (length (header_text header)) in
        let of_record : NoEnd (record_text header) = one_line Two lines.of_record.0 (record_line header) lines.of_record.1 (omega arith) in
        let of_view : NoEnd (view_text header) = one_line Two lines.of_view.0 (view_line header) lines.of_view.1 (omega arith) in
        let cut : bytes_to_line_end (header_text header ++ body) ≡ Some (record_text header, view_text header ++ 10 ∷ body) =
        ap bytes_to_line_end (lines_behind (record_text header) (view_text header) body) ∙ line_cut (record_text header) (view_text header ++ 10 ∷ body) of_record in
        let same : same_bytes size size ≡ true = (bytes_eq-Decides size size).1 refl in grind (arith, line_cut, header_back)
