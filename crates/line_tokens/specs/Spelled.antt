-- Tokens as a writer puts them: their bytes, with one space between each two.
use Rattle.std.specs.Prelude.{ℕ, ◌≡◌, ◌+◌, ◌^◌, ◌<◌, ◌≤◌, IsTrue, ⊤, List, [], ◌∷◌, ◌++◌, length, map, slice_range, Some, pos}
use Rattle.record_dim.specs.Std.{is_ascii_digit, AllPass, byte, digits_value}
use Rattle.line_tokens.specs.Bytes.{is_letter, is_word_byte, is_text_byte}
use Rattle.line_tokens.specs.Signs.{spelling, opens}
use Rattle.line_tokens.specs.Spots.{brackets_after, Spots}
use Rattle.line_tokens.specs.Tokens.{Begins}
use Rattle.line_tokens.specs.declared.spots.Spot.{Spot}
use Rattle.line_tokens.specs.declared.token.TokenKind.{TokenKind}
use Rattle.line_tokens.specs.declared.token.TokenKind.TheVariants.{Word, Number, Text, Sign as SignKind}

-- a token with its bytes
pub record Written : Type 0 where
  pub kind : TokenKind
  pub bytes : List ℕ

-- these bytes have the form of a token of this kind
abbrev pub Spells : TokenKind → List ℕ → Type 0
Spells Word bytes = Begins is_letter bytes × AllPass is_word_byte bytes × (length bytes ≤ 32)
Spells (Number value) bytes = Begins is_ascii_digit bytes × AllPass is_ascii_digit bytes
    × (digits_value 10 bytes < 2 ^ 127) × (value ≡ pos (digits_value 10 bytes))
Spells Text bytes = (inside : List ℕ) × (bytes ≡ byte "\"" ∷ (inside ++ byte "\"" ∷ []))
    × AllPass is_text_byte inside × (1 ≤ length inside) × (length inside ≤ 200)
Spells (SignKind sign) bytes = bytes ≡ spelling sign

-- the token may stand where so many brackets are open
abbrev pub MayOpen : TokenKind → ℕ → Type 0
MayOpen Word brackets = ⊤
MayOpen (Number value) brackets = ⊤
MayOpen Text brackets = ⊤
MayOpen (SignKind sign) brackets = IsTrue (opens sign) → brackets < 64

-- each token is spelled, and none opens a 65th bracket
abbrev pub AreSpelled : ℕ → List Written → Type 0
AreSpelled brackets [] = ⊤
AreSpelled brackets (token ∷ tokens) = Spells token.kind token.bytes × MayOpen token.kind brackets
    × AreSpelled (brackets_after token.kind brackets) tokens

-- each token behind a space
abbrev pub spaced : List Written → List ℕ
spaced [] = []
spaced (token ∷ tokens) = byte " " ∷ (token.bytes ++ spaced tokens)

-- the tokens with one space between each two
abbrev pub spaced_tokens : List Written → List ℕ
spaced_tokens [] = []
spaced_tokens (token ∷ tokens) = token.bytes ++ spaced tokens

-- the places of the tokens, where the first stands at `at`
abbrev pub places : ℕ → List Written → List Spot
places at [] = []
places at (token ∷ tokens) =
    record { from = at; end = at + length token.bytes; kind = Some token.kind } ∷ places (at + length token.bytes + 1) tokens

-- the tokens of a text that has no bad one, with their bytes
pub record AreTokensOf (text : List ℕ) (tokens : List Written) : Type 0 where
  pub spots : List Spot
  pub read : Spots text 0 0 spots
  pub kinds : map (λ spot. spot.kind) spots ≡ map (λ token. Some token.kind) tokens
  pub bytes : map (λ spot. slice_range text spot.from spot.end) spots ≡ map (λ token. token.bytes) tokens
