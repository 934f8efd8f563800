-- What a name is, and how the fields of a `Name` give its bytes and come back from them.
use Rattle.std.specs.Prelude.{◌≡◌, ℕ, ◌-◌, ◌≤◌, Bool, false, ◌&&◌, ◌||◌, ◌==◌, nat_le, List, [], ◌∷◌, ◌++◌, length, take, replicate, IsTrue}
use Rattle.record_dim.specs.Std.{list_all, is_ascii_alphabetic, is_ascii_alphanumeric}

-- a letter or `_`
abbrev pub begins_name : ℕ → Bool
begins_name byte = is_ascii_alphabetic byte || byte == 95

-- a letter, a digit or `_`
abbrev pub continues_name : ℕ → Bool
continues_name byte = is_ascii_alphanumeric byte || byte == 95

-- a letter or `_`, then letters, digits and `_`
abbrev pub is_word : List ℕ → Bool
is_word [] = false
is_word (first ∷ rest) = begins_name first && list_all continues_name rest

-- such a text of at most 32 bytes
abbrev pub is_name : List ℕ → Bool
is_name text = nat_le (length text) 32 && is_word text

-- a name's bytes, padded by zeros
abbrev pub padded_name : List ℕ → List ℕ
padded_name text = text ++ replicate (32 - length text) 0

-- the fields of a `Name` are the bytes of a name, padded by zeros, and their number
pub record StoresName (bytes : List ℕ) (len : ℕ) : Type 0 where
  pub small : len ≤ 32
  pub whole : length bytes ≡ 32
  pub padding : padded_name (take len bytes) ≡ bytes
  pub name : IsTrue (is_name (take len bytes))
