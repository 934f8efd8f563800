-- What commands write.
use Rattle.std.specs.Prelude.{◌∷◌, ◌++◌}
use Rattle.worlds.specs.Imports.{ℕ, ℤ, List, [], decimal_text}

-- a number as a line
unfoldable pub number_line : ℤ → List ℕ
number_line value = decimal_text value ++ 10 ∷ []
