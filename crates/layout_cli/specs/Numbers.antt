-- The words that name a number of rows.
use Rattle.std.specs.Prelude.{◌≡◌, ℕ, ◌≤◌, Bool, ◌&&◌, nat_le, if◌then◌else◌, List, Option, Some, None, bytes_eq}
use Rattle.record_dim.specs.Std.{digits_value}
use Rattle.layout_io.specs.Prelude.{digits_text}

-- the word is the decimal text of this number, which is from 1 to 65,536
abbrev pub is_number_word : List ℕ → ℕ → Bool
is_number_word word n = (nat_le 1 n && nat_le n 65536) && bytes_eq word (digits_text n)

-- the number from 1 to 65,536 whose decimal text the word is
unfoldable pub generated_rows : List ℕ → Option ℕ
generated_rows word = if is_number_word word (digits_value 10 word) then Some (digits_value 10 word) else None

-- the same as a relation
pub record IsNumberWord (word : List ℕ) (n : ℕ) : Type 0 where
  pub some : 1 ≤ n
  pub small : n ≤ 65536
  pub text : word ≡ digits_text n
