-- What is read of a line.
use Rattle.schema_lang.specs.Imports.{Bool, true, false, Grammar, body, extent_word, fixed, New, Sentence, ExtentWord, map_of, Token, Command, Two}
use Rattle.schema_lang.specs.declared.bodies.New as bodies

-- what makes a view
abbrev pub new_of : bodies.New → New
new_of new = record { name = new.name; schema = new.schema; words = new.words; wrap = new.wrap; term = map_of new.expr }

-- an extent, which may be `?` in a load
abbrev pub extent_where : Bool → Grammar Token ExtentWord
extent_where true = extent_word
extent_where false = fixed

-- what stands behind the word of a command, where it is the same in each version
abbrev pub common_body : Command → Grammar Token Sentence
common_body = body Two
