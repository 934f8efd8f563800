-- Lines without quotes, their fields, and the texts in which they stand.
use Rattle.std.specs.Prelude.{ℕ, suc, ◌≡◌, ◌≤◌, ◌<◌, ◌==◌, ◌||◌, Bool, true, false, List, [], ◌∷◌, Option, IfSome, take, drop, length, get_or, All, if◌then◌else◌}
use Rattle.record_dim.specs.Std.{slice_split}

abbrev pub is_comma : ℕ → Bool
is_comma byte = byte == 44

-- a carriage return or a line feed
abbrev pub is_line_end : ℕ → Bool
is_line_end byte = byte == 13 || byte == 10

-- what stands behind the ends of lines at the start
abbrev pub line_start : List ℕ → List ℕ
line_start [] = []
line_start (c ∷ xs) = if is_line_end c then line_start xs else c ∷ xs

-- the first line of a text by its length, and what stands from its end on
abbrev pub line_length : List ℕ → ℕ
line_length [] = 0
line_length (c ∷ xs) = if is_line_end c then 0 else suc (line_length xs)

abbrev pub first_line : List ℕ → List ℕ
first_line text = take (line_length text) text

abbrev pub behind_line : List ℕ → List ℕ
behind_line text = drop (line_length text) text

-- whether a quote opens quotes behind bytes that are no quotes and no ends of lines
abbrev pub opens_behind : Bool → List ℕ → Bool
opens_behind opens [] = opens
opens_behind opens (c ∷ xs) = opens_behind (is_comma c) xs

-- no byte is a quote
abbrev pub HasNoQuote : List ℕ → Type 0
HasNoQuote text = All (λ byte. (byte == 34) ≡ false) text

-- a byte of a line without quotes
abbrev pub IsPlain : ℕ → Type 0
IsPlain byte = (is_line_end byte ≡ false) × ((byte == 34) ≡ false)

-- the first field of what is left of a line has so many bytes
pub record IsFirstField (bytes : List ℕ) (count : ℕ) : Type 0 where
  pub within : count ≤ length bytes
  pub inside : All (λ byte. is_comma byte ≡ false) (take count bytes)
  pub ended : count < length bytes → is_comma (get_or bytes count 0) ≡ true

-- the field of this column of a line begins at this place
pub record IsField (line : List ℕ) (column start : ℕ) : Type 0 where
  pub within : start ≤ length line
  pub low : column ≤ start
  pub behind : drop column (slice_split is_comma line) ≡ slice_split is_comma (drop start line)

-- the first field of what is left of the first line of a text has so many bytes
pub record IsFieldHere (bytes : List ℕ) (count : ℕ) : Type 0 where
  pub within : count ≤ length bytes
  pub inside : All (λ byte. (is_comma byte ≡ false) × (is_line_end byte ≡ false)) (take count bytes)
  pub ended : count < length bytes → (is_comma (get_or bytes count 0) || is_line_end (get_or bytes count 0)) ≡ true

-- where the first line of a text is read: at the field of this column, which begins at this place; the line's length may be known
pub record IsAt (text : List ℕ) (column start : ℕ) (known : Option ℕ) : Type 0 where
  pub field : IsField (first_line text) column start
  pub is : IfSome known (λ count. count ≡ line_length text)
