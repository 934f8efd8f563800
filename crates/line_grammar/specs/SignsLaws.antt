-- A sign is told from the others by its spelling.
use Rattle.std.specs.Prelude.{◌≡◌, ℕ, true, List, refl}
use Rattle.record_dim.specs.Std.{bytes_eq-Decides, arith}
use Rattle.line_tokens.specs.Signs.{spelling}
use Rattle.line_tokens.specs.declared.sign.Sign.{Sign}
use Rattle.line_tokens.specs.SignsLaws.{sign_spelled}
use Rattle.line_grammar.specs.declared.token.Token.{Token}
use Rattle.line_grammar.specs.declared.token.Token.TheVariants.{Word, Sign as Signed}
use Rattle.line_grammar.specs.Tokens.{is_word, is_sign}

pub spelled_once : (a b : Sign) → spelling a ≡ spelling b → a ≡ b
spelled_once a b e = grind (arith, sign_spelled)

-- the test of a sign, and of a word
pub sign_self : (sign : Sign) → is_sign sign (Signed sign) ≡ true
sign_self sign = (bytes_eq-Decides (spelling sign) (spelling sign)).1 refl

pub sign_only : (sign : Sign) (token : Token) → is_sign sign token ≡ true → token ≡ Signed sign
sign_only sign token h = grind (arith, spelled_once, bytes_eq-Decides)

pub word_self : (text : List ℕ) → is_word text (Word text) ≡ true
word_self text = (bytes_eq-Decides text text).1 refl

pub word_only : (text : List ℕ) (token : Token) → is_word text token ≡ true → token ≡ Word text
word_only text token h = grind (arith, bytes_eq-Decides)
