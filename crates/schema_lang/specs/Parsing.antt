-- What a fault says of a text in a version of the language, and what an answer says where the text is a line.
use Rattle.std.specs.Prelude.{◌≡◌, ◌<◌}
use Rattle.schema_lang.specs.Imports.{ℕ, List, Result, Ok, Err, IsRecord, Line, Version, Sentence, deepest, sentence_of, Reads, StopsAt}
use Rattle.line_grammar.specs.declared.line.Line.TheVariants as line
use Rattle.schema_lang.specs.declared.fault.LineFault.{LineFault}
use Rattle.schema_lang.specs.declared.fault.LineFault.TheVariants.{Syntax, TooDeep, NoMemory}

-- the text is no line and stops at the column, or it is one that is too deep; memory may run out at any time
abbrev pub IsFault : Version → List ℕ → LineFault → Type 0
IsFault version text (Syntax column) = StopsAt version text column
IsFault version text TooDeep = (sentence : Sentence) × Reads version text sentence × (32 < deepest sentence)
IsFault version text NoMemory = Unit {0}

-- the answer for a text that is this line
abbrev pub IsAnswer : Sentence → Result Line LineFault → Type 0
IsAnswer sentence (Ok line) = sentence_of line ≡ sentence
IsAnswer sentence (Err (Syntax column)) = ⊥
IsAnswer sentence (Err TooDeep) = 32 < deepest sentence
IsAnswer sentence (Err NoMemory) = Unit {0}

-- a line that names a record has one with fields
abbrev pub HasItsFields : Line → Type 0
HasItsFields (line.Define name dim) = IsRecord dim
HasItsFields _ = Unit {0}
