-- The token that stands next in a text, where no bracket is open.
use Rattle.schema_lang.specs.Imports.{ℕ, Bool, true, false, List, Option, Some, None, next_of, Next, Token, token_of}
use Rattle.line_tokens.specs.declared.token.Next.TheVariants as next

-- a token, and the place behind it; a bad one is none
abbrev pub found_token : List ℕ → Next → Option (Token × ℕ)
found_token text next.End = None
found_token text (next.Bad from) = None
found_token text (next.Token from end kind) = Some (token_of text (record { from = from; end = end; kind = Some kind }), end)

abbrev pub token_next : List ℕ → ℕ → Option (Token × ℕ)
token_next text at = found_token text (next_of text at 0)

-- whether no token is left, and no bad one
abbrev pub is_end : Next → Bool
is_end next.End = true
is_end (next.Bad from) = false
is_end (next.Token from end kind) = false
