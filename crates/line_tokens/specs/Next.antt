-- The next token as a function of the bytes, by its first byte. None of an Option is a bad token.
use Rattle.std.specs.Prelude.{ℕ, ◌+◌, ◌^◌, ◌==◌, ◌&&◌, ◌||◌, if◌then◌else◌, nat_eq, nat_le, nat_lt, length, List, take, drop, Option, Some, None, slice_index, ℤ, pos}
use Rattle.record_dim.specs.Std.{is_ascii_digit, prefix_len, option_or, byte, digits_value}
use Rattle.std.specs.Option.{option_map}
use Rattle.line_tokens.specs.Bytes.{is_letter, is_word_byte, is_hash, is_quote, is_text_byte}
use Rattle.line_tokens.specs.Signs.{opens}
use Rattle.line_tokens.specs.Tokens.{start_of, rest_of}
use Rattle.line_tokens.specs.declared.sign.Sign.{Sign}
use Rattle.line_tokens.specs.declared.sign.Sign.TheVariants.{OpenBrace, CloseBrace, OpenBracket, CloseBracket, OpenParen, CloseParen, Colon, Comma, Dot, Equals, EqualEqual, NotEqual, LessThan, LessEqual, GreaterThan, GreaterEqual, Plus, Minus, Arrow, Star, Slash, Percent, Question}
use Rattle.line_tokens.specs.declared.token.Next.{Next}
use Rattle.line_tokens.specs.declared.token.Next.TheVariants.{End, Bad, Token}
use Rattle.line_tokens.specs.declared.token.TokenKind.{TokenKind}
use Rattle.line_tokens.specs.declared.token.TokenKind.TheVariants.{Word, Number, Text, Sign as SignKind}

-- the sign that two bytes spell
abbrev pub double_sign : ℕ → ℕ → Option Sign
double_sign a b =
    if a == byte "=" && b == byte "=" then Some EqualEqual else
    (if a == byte "!" && b == byte "=" then Some NotEqual else
    (if a == byte "<" && b == byte "=" then Some LessEqual else
    (if a == byte ">" && b == byte "=" then Some GreaterEqual else
    (if a == byte "-" && b == byte ">" then Some Arrow else None))))

-- the sign that one byte spells
abbrev pub single_sign : ℕ → Option Sign
single_sign b =
    if b == byte "{" then Some OpenBrace else
    (if b == byte "}" then Some CloseBrace else
    (if b == byte "[" then Some OpenBracket else
    (if b == byte "]" then Some CloseBracket else
    (if b == byte "(" then Some OpenParen else
    (if b == byte ")" then Some CloseParen else
    (if b == byte ":" then Some Colon else
    (if b == byte "," then Some Comma else
    (if b == byte "." then Some Dot else
    (if b == byte "=" then Some Equals else
    (if b == byte "<" then Some LessThan else
    (if b == byte ">" then Some GreaterThan else
    (if b == byte "+" then Some Plus else
    (if b == byte "-" then Some Minus else
    (if b == byte "*" then Some Star else
    (if b == byte "/" then Some Slash else
    (if b == byte "%" then Some Percent else
    (if b == byte "?" then Some Question else None)))))))))))))))))

-- the longest sign at the front, with its length
abbrev pub sign_at : List ℕ → Option (ℕ × Sign)
sign_at rest = option_or
    (if nat_lt 1 (length rest) then option_map (λ sign. (2, sign)) (double_sign (slice_index rest 0) (slice_index rest 1)) else None)
    (option_map (λ sign. (1, sign)) (single_sign (slice_index rest 0)))

-- a sign, unless it is the 65th open bracket
abbrev pub with_room : ℕ → Option (ℕ × Sign) → Option (ℕ × TokenKind)
with_room brackets None = None
with_room brackets (Some sign) = if opens sign.1 && nat_le 64 brackets then None else Some (sign.0, SignKind sign.1)

-- a word at the front, with its length
abbrev pub word_at : List ℕ → Option (ℕ × TokenKind)
word_at rest = let n = prefix_len is_word_byte rest in
    if nat_le n 32 then Some (n, Word) else None

-- the value of decimal digits, if it is at most 2 ^ 127 - 1
abbrev pub digits_value_of : List ℕ → Option ℤ
digits_value_of digits = if nat_lt (digits_value 10 digits) (2 ^ 127) then Some (pos (digits_value 10 digits)) else None

-- a number at the front, with its length
abbrev pub number_at : List ℕ → Option (ℕ × TokenKind)
number_at rest = let n = prefix_len is_ascii_digit rest in
    option_map (λ value. (n, Number value)) (digits_value_of (take n rest))

-- a string at the front, with its length
abbrev pub string_at : List ℕ → Option (ℕ × TokenKind)
string_at rest = let n = prefix_len is_text_byte (drop 1 rest) in
    if nat_le 1 n && nat_le n 200 && slice_index rest (n + 1) == byte "\"" then Some (n + 2, Text) else None

-- the token at the front, with its length
abbrev pub token_at : List ℕ → ℕ → Option (ℕ × TokenKind)
token_at rest brackets =
    if is_letter (slice_index rest 0) then word_at rest else
    (if is_ascii_digit (slice_index rest 0) then number_at rest else
    (if is_quote (slice_index rest 0) then string_at rest else with_room brackets (sign_at rest)))

-- the answer for a token or a bad token at place `from`
abbrev pub placed : ℕ → Option (ℕ × TokenKind) → Next
placed from None = Bad from
placed from (Some token) = Token from (from + token.0) token.1

-- what stands at the front of `rest`, which begins at place `from` with no blank
abbrev pub standing : ℕ → List ℕ → ℕ → Next
standing from rest brackets = if nat_eq (length rest) 0 || is_hash (slice_index rest 0) then End else placed from (token_at rest brackets)

-- the next token of a line's text from place `at` on, where `brackets` brackets are open
abbrev pub next_of : List ℕ → ℕ → ℕ → Next
next_of text at brackets = standing (start_of text at) (rest_of text at) brackets
