-- What stands at the front of a text that begins with no space and no tab: the end of the line, a token or a bad token.
-- A token is the longest that fits: `prefix_len p rest` is how many bytes at the front of `rest` pass `p`.
use Rattle.std.specs.Prelude.{ℕ, ◌≡◌, ◌+◌, ◌^◌, ◌<◌, ◌≤◌, Bool, IsTrue, ◌⊎◌, ⊤, List, [], ◌∷◌, ◌++◌, length, take, drop, ℤ, pos}
use Rattle.record_dim.specs.Std.{is_ascii_digit, prefix_len, AllPass, byte, digits_value}
use Rattle.line_tokens.specs.Bytes.{is_space_byte, is_letter, is_word_byte, is_hash, is_quote, is_text_byte, is_other}
use Rattle.line_tokens.specs.Signs.{spelling, opens}
use Rattle.line_tokens.specs.declared.sign.Sign.{Sign}
use Rattle.line_tokens.specs.declared.token.Next.{Next}
use Rattle.line_tokens.specs.declared.token.Next.TheVariants.{End, Bad, Token}
use Rattle.line_tokens.specs.declared.token.TokenKind.{TokenKind}
use Rattle.line_tokens.specs.declared.token.TokenKind.TheVariants.{Word, Number, Text, Sign as SignKind}

-- the place behind the spaces and tabs that stand from place `at` on
abbrev pub start_of : List ℕ → ℕ → ℕ
start_of text at = at + prefix_len is_space_byte (drop at text)

-- what stands there
abbrev pub rest_of : List ℕ → ℕ → List ℕ
rest_of text at = drop (start_of text at) text

-- there is a first byte, and it passes
abbrev pub Begins : (ℕ → Bool) → List ℕ → Type 0
Begins p [] = ⊥
Begins p (b ∷ _) = IsTrue (p b)

-- the text begins with these bytes
abbrev pub StartsWith : List ℕ → List ℕ → Type 0
StartsWith front rest = (after : List ℕ) × (rest ≡ front ++ after)

-- nothing is left but a comment
abbrev pub IsEnd : List ℕ → Type 0
IsEnd rest = (rest ≡ []) ⊎ Begins is_hash rest

-- a word of n bytes
abbrev pub IsWord : ℕ → List ℕ → Type 0
IsWord n rest = Begins is_letter rest × (n ≡ prefix_len is_word_byte rest) × (n ≤ 32)

-- a number of n digits, of this value
abbrev pub IsDigits : ℕ → ℤ → List ℕ → Type 0
IsDigits n value rest = Begins is_ascii_digit rest × (n ≡ prefix_len is_ascii_digit rest)
    × (digits_value 10 (take n rest) < 2 ^ 127) × (value ≡ pos (digits_value 10 (take n rest)))

-- a string of n bytes with its quotes
abbrev pub IsString : ℕ → List ℕ → Type 0
IsString n rest = (inside : List ℕ) × StartsWith (byte "\"" ∷ (inside ++ byte "\"" ∷ [])) rest
    × AllPass is_text_byte inside × (1 ≤ length inside) × (length inside ≤ 200) × (n ≡ length inside + 2)

-- a sign of n bytes, and no longer one
abbrev pub IsSign : ℕ → Sign → List ℕ → Type 0
IsSign n sign rest = StartsWith (spelling sign) rest × (n ≡ length (spelling sign))
    × ((other : Sign) → StartsWith (spelling other) rest → length (spelling other) ≤ n)

-- a token of this kind, of n bytes, where `brackets` brackets are open; at most 64 may be
abbrev pub IsToken : TokenKind → ℕ → List ℕ → ℕ → Type 0
IsToken Word n rest brackets = IsWord n rest
IsToken (Number value) n rest brackets = IsDigits n value rest
IsToken Text n rest brackets = IsString n rest
IsToken (SignKind sign) n rest brackets = IsSign n sign rest × (IsTrue (opens sign) → brackets < 64)

-- a byte that begins no token
abbrev pub IsStray : List ℕ → Type 0
IsStray rest = Begins is_other rest × ((sign : Sign) → ¬ StartsWith (spelling sign) rest)

-- a word that is too long
abbrev pub IsLongWord : List ℕ → Type 0
IsLongWord rest = Begins is_letter rest × (32 < prefix_len is_word_byte rest)

-- a number that is too great
abbrev pub IsGreatNumber : List ℕ → Type 0
IsGreatNumber rest = Begins is_ascii_digit rest × (2 ^ 127 ≤ digits_value 10 (take (prefix_len is_ascii_digit rest) rest))

-- a quote that begins no string
abbrev pub IsLoneQuote : List ℕ → Type 0
IsLoneQuote rest = Begins is_quote rest × ((n : ℕ) → ¬ IsString n rest)

-- a bracket that would be the 65th open at once
abbrev pub IsExtraBracket : List ℕ → ℕ → Type 0
IsExtraBracket rest brackets = (n : ℕ) × (sign : Sign) × IsSign n sign rest × IsTrue (opens sign) × (64 ≤ brackets)

-- a bad token
abbrev pub IsBad : List ℕ → ℕ → Type 0
IsBad rest brackets = IsStray rest ⊎ IsLongWord rest ⊎ IsGreatNumber rest ⊎ IsLoneQuote rest ⊎ IsExtraBracket rest brackets

-- a bad token stands next from place `at` on, and begins at `from`
abbrev pub IsBadFrom : List ℕ → ℕ → ℕ → ℕ → Type 0
IsBadFrom text at brackets from = (from ≡ start_of text at) × IsBad (drop from text) brackets

-- a token of this kind stands next from place `at` on: the bytes from `from` up to, and without, `end`
abbrev pub IsTokenFrom : List ℕ → ℕ → ℕ → ℕ → ℕ → TokenKind → Type 0
IsTokenFrom text at brackets from end kind =
    (from ≡ start_of text at) × (n : ℕ) × (end ≡ from + n) × IsToken kind n (drop from text) brackets

-- the places of an answer lie in what is left of the text
abbrev pub IsInside : List ℕ → ℕ → Next → Type 0
IsInside text at End = ⊤
IsInside text at (Bad from) = (at ≤ from) × (from < length text)
IsInside text at (Token from end kind) = (at ≤ from) × (from < end) × (end ≤ length text)
