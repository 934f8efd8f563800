-- The line that a text is in a version of the language, as a function of the text: what a run over texts is made of. `parse_line` says that it is the grammar's answer.
use Rattle.std.specs.Prelude.{◌≡◌, ◌+◌, ◌-◌, ◌<◌, ◌≤◌, ◌∷◌}
use Rattle.schema_lang.specs.Imports.{ℕ, zero, suc, List, [], length, Some, None, Result, Ok, Err, next_of, brackets_after, Spot, Next, Line, ended_at, read, line, tokens_of, column_behind, Sentence, sentence_of, deepest, Version}
use Rattle.line_tokens.specs.declared.token.Next.TheVariants.{End, Bad, Token}
use Rattle.line_grammar.specs.declared.token.Token as token
use Rattle.schema_lang.specs.declared.fault.LineFault.{LineFault}
use Rattle.schema_lang.specs.declared.fault.LineFault.TheVariants.{Syntax, TooDeep, NoMemory}

-- a token, and the spots behind it
abbrev pub spots_behind : Next → (ℕ → ℕ → List Spot) → ℕ → List Spot
spots_behind End more brackets = []
spots_behind (Bad from) more brackets = record { from = from; end = from; kind = None } ∷ []
spots_behind (Token from end kind) more brackets = record { from = from; end = end; kind = Some kind } ∷ more end (brackets_after kind brackets)

-- at most so many spots from a place on
abbrev pub spots_within : ℕ → List ℕ → ℕ → ℕ → List Spot
spots_within zero text at brackets = []
spots_within (suc room) text at brackets = spots_behind (next_of text at brackets) (spots_within room text) brackets

-- the spots of a text: each takes a byte
abbrev pub spots_in : List ℕ → List Spot
spots_in text = spots_within (length text + 1) text 0 0

-- reading tokens as a line, and nothing behind it
unfoldable pub line_at : Version → List token.Token → Result (Sentence × List token.Token) ℕ
line_at version = ended_at (read (line version))

-- the line of these tokens, or the column at which they stop
abbrev pub line_or_column : List Spot → Result (Sentence × List token.Token) ℕ → Result Sentence ℕ
line_or_column spots (Ok read) = Ok read.0
line_or_column spots (Err left) = Err (column_behind (length spots - left) spots)

unfoldable pub line_of : Version → List ℕ → Result Sentence ℕ
line_of version text = line_or_column (spots_in text) (line_at version (tokens_of text (spots_in text)))

-- the answer of a reader
abbrev pub IsTold : Result Sentence ℕ → Result Line LineFault → Type 0
IsTold line (Ok found) = (line ≡ Ok (sentence_of found)) × (deepest (sentence_of found) ≤ 32)
IsTold line (Err (Syntax column)) = line ≡ Err column
IsTold line (Err TooDeep) = (sentence : Sentence) × (line ≡ Ok sentence) × (32 < deepest sentence)
IsTold line (Err NoMemory) = Unit {0}
