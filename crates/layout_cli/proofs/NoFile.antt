-- Which lines read no file, by their first token.
use Rattle.layout_cli.proofs.Imports.{◌≡◌, Bool, true, false, List, [], ◌∷◌, ◌++◌, Option, Some, None, Ok, inl, inr, refl, sym, ap, ◌∙◌, Is, Leaves, leaves, line_found, Sentence, command_of, is_same, Token, Command, Version, line_at, actors, body, command_line, line, show_end, update_end, file_in}
use Rattle.line_grammar.specs.declared.line.Command.TheVariants as command
use Rattle.schema_lang.proofs.CommandLaws.{line_fine}

-- whether the first of these tokens is the word of a command that reads a file
abbrev pub is_reader : Option Command → Bool
is_reader (Some command.Load) = true
is_reader (Some command.Open) = true
is_reader other = false

abbrev pub reads_file : Version → List Token → Bool
reads_file version [] = false
reads_file version (first ∷ rest) = is_reader (command_of version first)

body_none : (version : Version) (word : Command) → is_reader (Some word) ≡ false → Leaves (body version word) (λ sentence. file_in sentence ≡ None)
unfolding body update_end actors show_end
body_none version command.Load bad = absurd cc
body_none version command.Open bad = absurd cc
body_none version _ other = search

begun_none : (version : Version) (tokens : List Token) (sentence : Sentence) → reads_file version tokens ≡ false → Is (line version) tokens sentence → file_in sentence ≡ None
unfolding line command_line
begun_none version tokens sentence other (inl h) =
    let is : tokens ≡ h.begins.0 ∷ h.back = h.whole ∙ ap (λ (k : List Token). k ++ h.back) h.begins.1 in
    let word : is_reader (Some h.first) ≡ false = sym (ap is_reader h.begins.2) ∙ sym (ap (reads_file version) is) ∙ other in
    leaves (body version h.first) (λ v. file_in v ≡ None) (body_none version h.first word) h.back sentence h.ends
begun_none version tokens sentence other (inr h) = rw h.1 refl

pub line_none : (version : Version) (tokens : List Token) (sentence : Sentence) (rest : List Token) → reads_file version tokens ≡ false → line_at version tokens ≡ Ok (sentence, rest) → file_in sentence ≡ None
unfolding line_at
line_none version tokens sentence rest other e = begun_none version tokens sentence other (line_found is_same (line version) (line_fine version) tokens sentence e)
