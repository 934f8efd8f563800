-- A line that is read as the definition of a record has a record with fields.
use Rattle.schema_lang.proofs.Imports.{◌≡◌, List, [], Ok, Token, Sentence, Define, sentence_of, is_same, Record, IsRecord, Single, Array, Tree, tree_of, Command, Version, Dim, Line, line_at, HasItsFields, Leaves, leaves, line_found, actors, body, command_line, line, show_end, update_end}
use Rattle.record_dim.specs.declared.dim.Dim.TheVariants as dim
use Rattle.line_grammar.specs.declared.line.Command.TheVariants as command
use Rattle.line_grammar.specs.declared.line.Line.TheVariants as line_kind
use Rattle.schema_lang.proofs.CommandLaws.{line_fine}

-- the record that a line defines has fields
abbrev IsTreeOfFields : Tree → Type 0
IsTreeOfFields (Record fields) = Unit {0}
IsTreeOfFields (Single kind) = ⊥
IsTreeOfFields (Array count element) = ⊥

abbrev HasFields : Sentence → Type 0
HasFields (Define name tree) = IsTreeOfFields tree
HasFields _ = Unit {0}

body_whole : (version : Version) (word : Command) → Leaves (body version word) HasFields
unfolding body update_end actors show_end
body_whole version command.Record = search
body_whole version _ = search

line_whole : (version : Version) → Leaves (line version) HasFields
unfolding line command_line
line_whole version = (body_whole version, tt)

record_whole : (held : Dim) → IsTreeOfFields (tree_of held) → IsRecord held
record_whole (dim.Leaf kind) h = h
record_whole (dim.Fields fields) h = tt
record_whole (dim.Array' len p element) h = h

of_line : (found : Line) → HasFields (sentence_of found) → HasItsFields found
of_line (line_kind.Define name held) h = record_whole held h
of_line _ h = tt

-- a line that is read whole
pub read_whole : (version : Version) (tokens : List Token) (found : Line) → line_at version tokens ≡ Ok (sentence_of found, []) → HasItsFields found
unfolding line_at
read_whole version tokens found e = of_line found (leaves (line version) HasFields (line_whole version) tokens (sentence_of found) (line_found is_same (line version) (line_fine version) tokens (sentence_of found) e))
