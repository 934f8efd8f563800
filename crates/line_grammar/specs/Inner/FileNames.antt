-- What the name of a file is, and how the fields of a `FileName` give its bytes and come back from them.
use Rattle.std.specs.Prelude.{◌≡◌, ℕ, ◌-◌, ◌≤◌, Bool, ◌&&◌, nat_le, List, ◌++◌, length, take, replicate, IsTrue}
use Rattle.record_dim.specs.Std.{list_all}
use Rattle.line_tokens.specs.Bytes.{is_text_byte}

-- 1 to 200 bytes that may stand between the quotes of a string
abbrev pub is_file_name : List ℕ → Bool
is_file_name text = nat_le 1 (length text) && nat_le (length text) 200 && list_all is_text_byte text

-- a name's bytes, padded by zeros
abbrev pub padded_file_name : List ℕ → List ℕ
padded_file_name text = text ++ replicate (200 - length text) 0

-- the fields of a `FileName` are the bytes of a name, padded by zeros, and their number
pub record StoresFileName (bytes : List ℕ) (len : ℕ) : Type 0 where
  pub small : len ≤ 200
  pub whole : length bytes ≡ 200
  pub padding : padded_file_name (take len bytes) ≡ bytes
  pub name : IsTrue (is_file_name (take len bytes))
