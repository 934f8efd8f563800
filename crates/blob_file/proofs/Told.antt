-- The lines of a header: what is told of a text is what the grammar says.
use Rattle.blob_file.proofs.Imports.{◌≡◌, ℕ, ◌<◌, ◌≤◌, Bool, true, false, List, length, Result, Ok, Err, Option, Some, None, refl, ap, MatchResult, IfOk, IfErr, ◌⊎◌, nat_le, if◌then◌else◌, and_parts, and_left, and_right, leb-true, le-leb, lt-leb, bytes_eq-Decides, same_spots, Reads, StopsAt, Sentence, sentence_of, deepest, Line, Version, Two, canonical, line_of, IsTold, HasItsFields, LineFault, refusal, FileFault, same_bytes, canonical_by, line_told, arith}
use Rattle.blob_file.specs.declared.fault.FileFault.TheVariants as fault

-- a test in front of an answer
pub some_if : {A : Type 0} (test : Bool) (x y : A) → (if test then Some x else None) ≡ Some y → (test ≡ true) × (x ≡ y)
some_if {A} true x y e = grind arith
some_if false x y e = absurd (cc e)

pub if_some : {A : Type 0} (test : Bool) (x : Option A) (y : A) → (if test then x else None) ≡ Some y → (test ≡ true) × (x ≡ Some y)
if_some test x y e = grind arith

-- ---- the line of a text

module _ (text : List ℕ) where
  pub told_some : (sentence : Sentence) → length text ≤ 4096 → line_of Two text ≡ Ok sentence → deepest sentence ≤ 32 → same_bytes (canonical sentence) text ≡ true → line_told text ≡ Some sentence
  unfolding line_told
  told_some sentence short is low same = grind (arith, nat_le, le-leb)

  pub told_long : 4096 < length text → line_told text ≡ None
  unfolding line_told
  told_long long = let many : nat_le (length text) 4096 ≡ false = lt-leb (length text) 4096 long in rw many refl

  none_by : (test : Bool) (read : Result Sentence ℕ) → canonical_by text read ≡ None → (if test then canonical_by text read else None) ≡ None
  none_by test read e = grind arith

  pub told_no : (column : ℕ) → line_of Two text ≡ Err column → line_told text ≡ None
  unfolding line_told
  told_no column is = none_by (nat_le (length text) 4096) (line_of Two text) (rw is refl)

  pub told_other : (sentence : Sentence) → line_of Two text ≡ Ok sentence → same_bytes (canonical sentence) text ≡ false → line_told text ≡ None
  unfolding line_told
  told_other sentence is other = grind (arith, nat_le, and_left, none_by)

  pub told_deep : (sentence : Sentence) → line_of Two text ≡ Ok sentence → 32 < deepest sentence → line_told text ≡ None
  unfolding line_told
  told_deep sentence is deep = grind (arith, nat_le, lt-leb, and_right, none_by)

  by_canonical : (read : Result Sentence ℕ) (sentence : Sentence) → canonical_by text read ≡ Some sentence → (read ≡ Ok sentence) × (deepest sentence ≤ 32) × (canonical sentence ≡ text)
  by_canonical read sentence e = grind (arith, some_if, nat_le, and_parts, leb-true, bytes_eq-Decides)

  pub told_parts : (sentence : Sentence) → line_told text ≡ Some sentence → (length text ≤ 4096) × (line_of Two text ≡ Ok sentence) × (deepest sentence ≤ 32) × (canonical sentence ≡ text)
  unfolding line_told
  told_parts sentence e =
      let told = if_some (nat_le (length text) 4096) (canonical_by text (line_of Two text)) sentence e in
      let parts = by_canonical (line_of Two text) sentence told.1 in
      (leb-true (length text) 4096 told.0, parts.0, parts.1, parts.2)

  -- a fault of the reader of lines
  pub refused_line : (found : LineFault) → IsTold (line_of Two text) (Err found) → (refusal found ≡ fault.NoMemory) ⊎ ((refusal found ≡ fault.Header) × (line_told text ≡ None))
  refused_line found told = grind (arith, told_no, told_deep)

  -- a line whose spelling was looked at
  module _ (line : Line) (short : length text ≤ 4096) (is : line_of Two text ≡ Ok (sentence_of line)) (low : deepest (sentence_of line) ≤ 32) where
    pub spelled_told : (result : Result Line FileFault) → IfOk result (λ same. (same ≡ line) × (same_bytes (canonical (sentence_of line)) text ≡ true)) → IfOk result (λ same. line_told text ≡ Some (sentence_of same))
    spelled_told result told = grind (arith, told_some)

    pub spelled_whole : (result : Result Line FileFault) → HasItsFields line → IfOk result (λ same. (same ≡ line) × (same_bytes (canonical (sentence_of line)) text ≡ true)) → IfOk result HasItsFields
    spelled_whole result whole told = grind arith

    pub spelled_other : (result : Result Line FileFault) → IfErr result (λ found. (found ≡ fault.NoMemory) ⊎ ((found ≡ fault.Header) × (same_bytes (canonical (sentence_of line)) text ≡ false)))
        → IfErr result (λ found. (found ≡ fault.NoMemory) ⊎ ((found ≡ fault.Header) × (line_told text ≡ None)))
    spelled_other result told = grind (arith, told_other)

-- ---- against the grammar

module _ (one_reading : (version : Version) (text : List ℕ) (a b : Sentence) → Reads version text a → Reads version text b → a ≡ b)
    (law : (version : Version) (text : List ℕ) → MatchResult (line_of version text) (Reads version text) (StopsAt version text)) where
  told_is : (text : List ℕ) (sentence : Sentence) (told : Result Sentence ℕ) → MatchResult told (Reads Two text) (StopsAt Two text) → Reads Two text sentence → told ≡ Ok sentence
  told_is text sentence (Ok found) is reads = ap (λ (s : Sentence). Ok s) (one_reading Two text found sentence is reads)
  told_is text sentence (Err column) stops reads = grind (arith, same_spots)

  -- a text that is a line is told to be this line
  pub line_is : (text : List ℕ) (sentence : Sentence) → Reads Two text sentence → line_of Two text ≡ Ok sentence
  line_is text sentence reads = told_is text sentence (line_of Two text) (law Two text) reads

  -- and one that is told to be a line is it
  pub reads_told : (text : List ℕ) (sentence : Sentence) → line_of Two text ≡ Ok sentence → Reads Two text sentence
  reads_told text sentence is = rw is at (law Two text)
