-- Texts that stand in a line as they are.
use Rattle.csv_rows.proofs.Imports.{not, list_all, list_any, has_twice, ℕ, ◌≡◌, nat_eq, Bool, true, false, List, [], ◌∷◌}

-- a byte that neither ends nor quotes a field, is no blank, and begins no byte order mark
abbrev pub is_plain_byte : ℕ → Bool
is_plain_byte byte = not (list_any (nat_eq byte) (9 ∷ 10 ∷ 13 ∷ 32 ∷ 34 ∷ 44 ∷ 239 ∷ []))

-- one such byte or more, and no other
abbrev pub is_plain_text : List ℕ → Bool
is_plain_text [] = false
is_plain_text (byte ∷ bytes) = list_all is_plain_byte (byte ∷ bytes)

-- names that a header can have as they are
pub record AreColumnNames (names : List (List ℕ)) : Type 0 where
  pub plain : list_all is_plain_text names ≡ true
  pub once : has_twice names ≡ false
