-- Which lines read a file, and what a shelf tells.
use Rattle.std.specs.Prelude.{◌≡◌, List, Option, Some, None, Ok, Err, refl}
use Rattle.session.specs.Imports.{File, sentence_of, file_read_by, Line, Outcome, Unread}
use Rattle.line_grammar.specs.declared.line.Line.TheVariants as line
use Rattle.session.specs.Loads.{ToldFor}

-- a line that is no load and no open reads no file
pub no_file : (l : Line) → ((name schema : _) (words : _) (wrap : _) (expr : _) (file : _) → l ≡ line.Load name schema words wrap expr file → ⊥)
    → ((name : _) (file : _) → l ≡ line.OpenFile name file → ⊥) → file_read_by (sentence_of l) ≡ None
no_file (line.Load name schema words wrap expr file) no_load no_open = absurd (no_load name schema words wrap expr file refl)
no_file (line.OpenFile name file) no_load no_open = absurd (no_open name file refl)
no_file _ no_load no_open = refl

-- what a shelf tells it tells to any line
pub told_any : {A : Type 0} (told : Option (List File)) (outcome : Outcome A) (files : List File) → told ≡ Some files → ToldFor told outcome files
told_any told (Err (Unread name)) files is = is
told_any told outcome files is = tt
