-- The version line of a script, and blank lines, as functions of a text.
use Rattle.std.specs.Prelude.{◌==◌, ◌∷◌, if◌then◌else◌}
use Rattle.schema_lang.specs.Imports.{ℕ, Bool, List, [], length, codes, Option, None, Token, tokens_of, is_word, count_of}
use Rattle.schema_lang.specs.LineOf.{spots_in}

-- the number of a version line: the word `version` and a COUNT are all of its tokens
abbrev pub version_number : List Token → Option ℕ
version_number (word ∷ count ∷ []) = if is_word (codes "version") word then count_of count else None
version_number tokens = None

abbrev pub version_of : List ℕ → Option ℕ
version_of text = version_number (tokens_of text (spots_in text))

-- it has no token
abbrev pub is_blank_line : List ℕ → Bool
is_blank_line text = length (spots_in text) == 0
