-- Which line a text is in a version of the language, and at which column a text that is no line stops being the beginning of one.
use Rattle.std.specs.Prelude.{ℕ, zero, suc, ◌≡◌, ◌+◌, ◌-◌, List, [], ◌∷◌, length, map}
use Rattle.line_tokens.specs.declared.spots.Spot.{Spot}
use Rattle.line_tokens.specs.Spots.{Spots}
use Rattle.line_grammar.specs.Column.{IsStop}
use Rattle.line_grammar.specs.declared.token.Token.{Token}
use Rattle.line_grammar.specs.declared.version.Version.{Version}
use Rattle.line_grammar.specs.Tokens.{token_of}
use Rattle.line_grammar.specs.Sentences.{Sentence}
use Rattle.line_grammar.specs.Language.{IsSentence}

-- the tokens of a text, a bad one the last of them
abbrev pub tokens_of : List ℕ → List Spot → List Token
tokens_of text spots = map (token_of text) spots

-- the text is this line
pub record Reads (version : Version) (text : List ℕ) (sentence : Sentence) : Type 0 where
  pub spots : List Spot
  pub tokens : Spots text 0 0 spots
  pub line : IsSentence version (tokens_of text spots) sentence

-- the column, counted from 1, of the first byte of the spot behind this many, or one past the last byte of them all
abbrev pub column_behind : ℕ → List Spot → ℕ
column_behind zero (spot ∷ spots) = spot.from + 1
column_behind (suc n) (spot ∷ []) = spot.end + 1
column_behind (suc n) (spot ∷ next ∷ spots) = column_behind n (next ∷ spots)
column_behind n [] = 1

-- the text is no line, and this is the column of the first token with which the tokens so far begin none, or one past them all
pub record StopsAt (version : Version) (text : List ℕ) (column : ℕ) : Type 0 where
  pub spots : List Spot
  pub tokens : Spots text 0 0 spots
  pub left : ℕ
  pub stop : IsStop (IsSentence version) (tokens_of text spots) left
  pub place : column ≡ column_behind (length spots - left) spots
