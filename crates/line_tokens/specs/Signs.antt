-- How each sign is spelled, and which of them are brackets.
use Rattle.std.specs.Prelude.{ℕ, Bool, true, false, List, codes}
use Rattle.line_tokens.specs.declared.sign.Sign.{Sign}
use Rattle.line_tokens.specs.declared.sign.Sign.TheVariants.{OpenBrace, CloseBrace, OpenBracket, CloseBracket, OpenParen, CloseParen, Colon, Comma, Dot, Equals, EqualEqual, NotEqual, LessThan, LessEqual, GreaterThan, GreaterEqual, Plus, Minus, Arrow, Star, Slash, Percent, Question}

-- the bytes of a sign
abbrev pub spelling : Sign → List ℕ
spelling OpenBrace = codes "{"
spelling CloseBrace = codes "}"
spelling OpenBracket = codes "["
spelling CloseBracket = codes "]"
spelling OpenParen = codes "("
spelling CloseParen = codes ")"
spelling Colon = codes ":"
spelling Comma = codes ","
spelling Dot = codes "."
spelling Equals = codes "="
spelling EqualEqual = codes "=="
spelling NotEqual = codes "!="
spelling LessThan = codes "<"
spelling LessEqual = codes "<="
spelling GreaterThan = codes ">"
spelling GreaterEqual = codes ">="
spelling Plus = codes "+"
spelling Minus = codes "-"
spelling Arrow = codes "->"
spelling Star = codes "*"
spelling Slash = codes "/"
spelling Percent = codes "%"
spelling Question = codes "?"

-- an opening bracket
abbrev pub opens : Sign → Bool
opens OpenBrace = true
opens OpenBracket = true
opens OpenParen = true
opens _ = false

-- a closing bracket
abbrev pub closes : Sign → Bool
closes CloseBrace = true
closes CloseBracket = true
closes CloseParen = true
closes _ = false
