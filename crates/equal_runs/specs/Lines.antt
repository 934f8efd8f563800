-- Lines that differ in their mapping expressions alone, and the texts that are lines.
use Rattle.std.specs.Prelude.{◌≡◌, ◌≤◌, ◌∷◌}
use Rattle.equal_runs.specs.Imports.{ℕ, ⊤, Bool, true, false, List, [], length, Ok, MapTerm, Sentence, Mapping, View, Load, Relayout, Show, Bytes, Save, Actors, Advise, deepest, Version, line_of}
use Rattle.line_grammar.specs.declared.line.ShowKind.TheVariants as show

-- the line with this mapping expression in place of its own, where it has one; the candidates of an advice stay
abbrev pub with_term : MapTerm → Sentence → Sentence
with_term term (Mapping name old) = Mapping name term
with_term term (View new) = View (record new { term = term })
with_term term (Load new file) = Load (record new { term = term }) file
with_term term (Relayout view old) = Relayout view term
with_term term line = line

-- equally many lines, and each the same but for its mapping expression
abbrev pub AgreeButTerms : List Sentence → List Sentence → Type 0
AgreeButTerms [] [] = ⊤
AgreeButTerms (line ∷ lines) (other ∷ others) = ((term : MapTerm) × (other ≡ with_term term line)) × AgreeButTerms lines others
AgreeButTerms _ _ = ⊥

-- the commands that write how a table lies, or what it costs to lie so
abbrev pub shows_layout : Sentence → Bool
shows_layout (Show show.Heat view) = true
shows_layout (Show show.Layout view) = true
shows_layout (Bytes view blob) = true
shows_layout (Save view) = true
shows_layout (Actors view filter sets cuts seed turns) = true
shows_layout (Advise view granule passes terms splits) = true
shows_layout _ = false

-- in a version of the language, the text is this line, and both are within the limits on lines
pub record IsLine (version : Version) (text : List ℕ) (line : Sentence) : Type 0 where
  pub parsed : line_of version text ≡ Ok line
  pub short : length text ≤ 4096
  pub shallow : deepest line ≤ 32

-- each of the texts is the line at its place
abbrev pub AreLines : Version → List (List ℕ) → List Sentence → Type 0
AreLines version [] [] = ⊤
AreLines version (text ∷ texts) (line ∷ lines) = IsLine version text line × AreLines version texts lines
AreLines version _ _ = ⊥
