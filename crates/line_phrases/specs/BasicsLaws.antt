-- The tokens of phrases: which one passes a test, an item of each kind, and how tightly a token binds.
use Rattle.line_phrases.specs.Imports.{cases_Bool, ℕ, Bool, false, List, Option, Some, None, codes, bytes_eq, pos, refl, Fine, Exact, is_same, is_sign, is_word, name, number, count, sign_self, sign_only, word_self, word_only, Sign, OpenBracket, Dot, EqualEqual, NotEqual, LessThan, LessEqual, GreaterThan, GreaterEqual, Plus, Minus, Star, Slash, Percent, Token, Word, Number, Signed, arith}
use Rattle.std.specs.Prelude.{◌≡◌, if◌then◌else◌}

pub exact_sign : (sign : Sign) → Exact (is_sign sign) (Signed sign)
exact_sign sign = record { passes = sign_self sign; only = sign_only sign }

pub exact_word : (text : List ℕ) → Exact (is_word text) (Word text)
exact_word text = record { passes = word_self text; only = word_only text }

pub name_fine : Fine is_same name
name_fine = (Word (codes "a"), codes "a", refl)

pub count_fine : Fine is_same count
count_fine = (Number (pos 0), 0, refl)

pub number_fine : Fine is_same number
number_fine = (Number (pos 0), pos 0, refl)

-- how tightly a token that goes on with an expression binds: `or` least, and the parts of a path most
abbrev pub level_of : Token → ℕ
level_of (Word word) = if bytes_eq word (codes "and") then 2 else (if bytes_eq word (codes "or") then 1 else 0)
level_of (Signed EqualEqual) = 3
level_of (Signed NotEqual) = 3
level_of (Signed LessThan) = 3
level_of (Signed LessEqual) = 3
level_of (Signed GreaterThan) = 3
level_of (Signed GreaterEqual) = 3
level_of (Signed Plus) = 4
level_of (Signed Minus) = 4
level_of (Signed Star) = 5
level_of (Signed Slash) = 5
level_of (Signed Percent) = 5
level_of (Signed Dot) = 6
level_of (Signed OpenBracket) = 6
level_of _ = 0

-- what has a meaning is not a token without it
pub apart : {A : Type 0} {test : Token → Bool} {some : Token} → Exact test some → (value : Token → Option A) → value some ≡ None → (token : Token) (v : A) → value token ≡ Some v → test token ≡ false
apart {test = test} exact value none token v e = grind (arith, cases_Bool)
