-- The tokens of a line with their places, up to the end of the line or to its first bad token.
use Rattle.std.specs.Prelude.{ℕ, ◌≡◌, ◌+◌, ◌-◌, if◌then◌else◌, List, [], ◌∷◌, MatchOption}
use Rattle.line_tokens.specs.Signs.{opens, closes}
use Rattle.line_tokens.specs.Next.{next_of}
use Rattle.line_tokens.specs.declared.spots.Spot.{Spot}
use Rattle.line_tokens.specs.declared.token.Next.TheVariants.{End, Bad, Token}
use Rattle.line_tokens.specs.declared.token.TokenKind.{TokenKind}
use Rattle.line_tokens.specs.declared.token.TokenKind.TheVariants.{Word, Number, Text, Sign as SignKind}

-- how many brackets are open behind a token; a bracket of any kind closes one open bracket, if there is one
abbrev pub brackets_after : TokenKind → ℕ → ℕ
brackets_after Word brackets = brackets
brackets_after (Number value) brackets = brackets
brackets_after Text brackets = brackets
brackets_after (SignKind sign) brackets = if opens sign then brackets + 1 else (if closes sign then brackets - 1 else brackets)

-- the tokens from place `at` on, where `brackets` brackets are open; a spot without a kind is the bad token, and the last
abbrev pub Spots : List ℕ → ℕ → ℕ → List Spot → Type 0
Spots text at brackets [] = next_of text at brackets ≡ End
Spots text at brackets (spot ∷ spots) = MatchOption spot.kind
    ((next_of text at brackets ≡ Bad spot.from) × (spot.end ≡ spot.from) × (spots ≡ []))
    (λ kind. (next_of text at brackets ≡ Token spot.from spot.end kind) × Spots text spot.end (brackets_after kind brackets) spots)
