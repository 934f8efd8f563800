-- The decimal text of a number.
use Rattle.std.specs.Prelude.{ℕ, zero, suc, ◌+◌, List, [], ◌∷◌, map, ℤ, pos, negsuc}
use Rattle.std.specs.Int.Digits.{digits_of}

-- the digits of a number, the highest first: one zero for 0, and else no zero in front
unfoldable pub digits_text : ℕ → List ℕ
digits_text zero = 48 ∷ []
digits_text (suc n) = map (λ digit. 48 + digit) (digits_of 10 (suc n))

-- the digits of a number, after '-' where it is below 0
abbrev pub decimal_text : ℤ → List ℕ
decimal_text (pos n) = digits_text n
decimal_text (negsuc n) = 45 ∷ digits_text (suc n)
