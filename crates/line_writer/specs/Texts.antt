-- The canonical text of a line: its canonical tokens with exactly one space between each two.
use Rattle.std.specs.Prelude.{ℕ, Bool, true, false, List, [], ◌∷◌, ◌++◌, map}
use Rattle.record_dim.specs.Std.{signed_decimal, byte}
use Rattle.line_writer.specs.Imports.{spelling, Written, spaced_tokens, Token, Word, Number, Text, Sign, Bad, Sentence, Assign, Update, Actors, Kernel, Reduce, Count, Save, Open, Advise, PrintWindow, Stencil}
use Rattle.line_tokens.specs.declared.token.TokenKind.TheVariants as kind
use Rattle.line_writer.specs.Canonical.{line_tokens}

-- a token with its bytes: a number has no leading zeros; no line has a bad token
abbrev pub written : Token → Written
written (Word text) = record { kind = kind.Word; bytes = text }
written (Number value) = record { kind = kind.Number value; bytes = signed_decimal value }
written (Text text) = record { kind = kind.Text; bytes = byte "\"" ∷ (text ++ byte "\"" ∷ []) }
written (Sign sign) = record { kind = kind.Sign sign; bytes = spelling sign }
written Bad = record { kind = kind.Word; bytes = [] }

-- the canonical text
unfoldable pub canonical : Sentence → List ℕ
canonical sentence = spaced_tokens (map written (line_tokens sentence))

-- the text with these tokens at its end, each behind a space
abbrev pub with_tokens_behind : List ℕ → List Token → List ℕ
with_tokens_behind text [] = text
with_tokens_behind text (token ∷ tokens) = with_tokens_behind (text ++ byte " " ∷ (written token).bytes) tokens

-- whether a line changes numbers in rows, or makes one number of them
abbrev pub is_on_rows : Sentence → Bool
is_on_rows (Assign view index path value) = true
is_on_rows (Update view filter sets) = true
is_on_rows (Actors view filter sets cuts seed turns) = true
is_on_rows (Kernel view text lanes) = true
is_on_rows (Reduce view kind path) = true
is_on_rows (Count view filter) = true
is_on_rows _ = false

-- whether a line begins with a word that came with the second version, or prints a window
abbrev pub is_later : Sentence → Bool
is_later (Save view) = true
is_later (Open name file) = true
is_later (Advise view granule passes maps splits) = true
is_later (PrintWindow view window) = true
is_later (Stencil view window path terms divisor rounds) = true
is_later _ = false
