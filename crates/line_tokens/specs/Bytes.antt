-- The classes of bytes that tokens are made of.
use Rattle.std.specs.Prelude.{ℕ, Bool, ◌==◌, ◌&&◌, ◌||◌, not}
use Rattle.record_dim.specs.Std.{is_ascii_digit, is_ascii_alphabetic, is_in_range, byte}

-- a space or a tab
abbrev pub is_space_byte : ℕ → Bool
is_space_byte b = b == byte " " || b == byte "\t"

-- a letter or `_`
abbrev pub is_letter : ℕ → Bool
is_letter b = is_ascii_alphabetic b || b == byte "_"

-- a letter, a digit or `_`
abbrev pub is_word_byte : ℕ → Bool
is_word_byte b = is_letter b || is_ascii_digit b

-- what begins a comment
abbrev pub is_hash : ℕ → Bool
is_hash b = b == byte "#"

-- what stands at both ends of a string
abbrev pub is_quote : ℕ → Bool
is_quote b = b == byte "\""

-- what may stand between the quotes of a string: 20 to 7E hexadecimal, other than `"` and `\`
abbrev pub is_text_byte : ℕ → Bool
is_text_byte b = is_in_range 0x20 0x7E b && not (is_quote b) && not (b == byte "\\")

-- a byte that begins no word, number, string or comment
abbrev pub is_other : ℕ → Bool
is_other b = not (is_letter b || is_ascii_digit b || is_hash b || is_quote b)
