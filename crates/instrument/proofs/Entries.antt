-- Bytes, their bits and their numbers.
use Rattle.instrument.proofs.Imports.{◌≡◌, ℕ, ◌<◌, ◌≤◌, List, [], ◌∷◌, length, get_or, arith, enumerate_from, get_or-enumerate_from, length-enumerate_from, bits_of, bytes_of, line_end, bytes_long, byte_is}

-- the byte of a number
pub byte_entry : (bytes : List ℕ) (at byte : ℕ) → at < length bytes → byte < 256 → byte ≡ get_or bytes at 0 →
    get_or (enumerate_from 0 (bytes_of (bits_of bytes))) at (0, 0) ≡ (at, byte)
byte_entry bytes at byte small fits is = grind (arith, bytes_long, get_or, get_or-enumerate_from, byte_is)

pub entry_within : (bytes : List ℕ) (at : ℕ) → at < length bytes → at < length (enumerate_from 0 (bytes_of (bits_of bytes)))
entry_within bytes at small = omega (arith, length-enumerate_from 0 (bytes_of (bits_of bytes)), bytes_long bytes)

pub entries_over : (bytes : List ℕ) (at : ℕ) → length bytes ≤ at → length (enumerate_from 0 (bytes_of (bits_of bytes))) ≤ at
entries_over bytes at over = omega (arith, length-enumerate_from 0 (bytes_of (bits_of bytes)), bytes_long bytes)

one_line : (bytes : List ℕ) → 0 < length bytes → line_end bytes ≡ 10 ∷ []
one_line bytes some = grind arith

pub one_end : (bytes : List ℕ) → (length bytes ≡ 0 → ⊥) → line_end (bytes_of (bits_of bytes)) ≡ 10 ∷ []
one_end bytes some = one_line (bytes_of (bits_of bytes)) (omega (arith, bytes_long bytes, some))
