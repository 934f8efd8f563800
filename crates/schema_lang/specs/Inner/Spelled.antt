-- What the bytes of a spot are: those of a name or of a string, where its kind says so.
use Rattle.std.specs.Prelude.{◌≡◌, ◌+◌, ◌-◌, ◌≤◌}
use Rattle.schema_lang.specs.Imports.{ℕ, true, List, length, slice_range, MatchOption, Spot, TokenKind, Word, Number, Text, SignKind, is_name, is_file_name}

abbrev pub IsSpelledAs : List ℕ → ℕ → ℕ → TokenKind → Type 0
IsSpelledAs text from end Word = is_name (slice_range text from end) ≡ true
IsSpelledAs text from end Text = (from + 2 ≤ end) × (is_file_name (slice_range text (from + 1) (end - 1)) ≡ true)
IsSpelledAs text from end (Number value) = Unit {0}
IsSpelledAs text from end (SignKind sign) = Unit {0}

-- the spot lies in the text, and its bytes are of its kind
abbrev pub IsSpelled : List ℕ → Spot → Type 0
IsSpelled text spot = (spot.from ≤ spot.end) × (spot.end ≤ length text)
    × MatchOption spot.kind (Unit {0}) (IsSpelledAs text spot.from spot.end)
