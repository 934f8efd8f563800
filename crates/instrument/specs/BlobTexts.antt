-- The text of the bytes of a blob.
use Rattle.std.specs.Prelude.{ℕ, ◌+◌, ◌*◌, ◌/◌, ◌%◌, ◌==◌, nat_lt, List, [], ◌∷◌, ◌++◌, length, map, slice_index_or, if◌then◌else◌}
use Rattle.record_dim.specs.Std.{flat_map, enumerate_from, range_with_len}
use Rattle.places.specs.Prelude.{number}

-- the bytes of bits: bit k of a byte is its binary digit k
abbrev pub byte_of_bits : List ℕ → ℕ → ℕ
byte_of_bits bits at = number (λ k. slice_index_or bits (8 * at + k) 0) 8

abbrev pub bytes_of : List ℕ → List ℕ
bytes_of bits = map (byte_of_bits bits) (range_with_len 0 (length bits / 8))

-- a hexadecimal digit, lower-case
abbrev pub hex_digit : ℕ → ℕ
hex_digit digit = if nat_lt digit 10 then 48 + digit else 87 + digit

-- what stands before the byte of this number: 16 bytes a line, with one space between each two
abbrev pub before_byte : ℕ → List ℕ
before_byte at = if at == 0 then [] else (if at % 16 == 0 then 10 ∷ [] else 32 ∷ [])

-- a byte by its number
abbrev pub byte_text : ℕ × ℕ → List ℕ
byte_text byte = before_byte byte.0 ++ hex_digit (byte.1 / 16) ∷ hex_digit (byte.1 % 16) ∷ []

-- the end of the last line; no bytes have no line
abbrev pub line_end : List ℕ → List ℕ
line_end [] = []
line_end (byte ∷ bytes) = 10 ∷ []

-- the bytes of a blob
unfoldable pub bytes_text : List ℕ → List ℕ
bytes_text bytes = flat_map byte_text (enumerate_from 0 bytes) ++ line_end bytes
