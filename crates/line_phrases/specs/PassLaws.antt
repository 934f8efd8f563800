-- The passes that a layout is chosen for are read by first tokens, and how their reading goes on.
use Rattle.std.specs.Prelude.{◌≡◌, ◌∷◌, ◌++◌}
use Rattle.line_phrases.specs.Imports.{ℕ, true, false, List, [], codes, Ok, Err, refl, starts, Fine, Quiet, list_end, list_stepped, list_stop, is_same, is_word, read, later_passes, part, pass, passes, path, PassText, Token}
use Rattle.line_phrases.specs.BasicsLaws.{count_fine, exact_word}
use Rattle.line_phrases.specs.ListLaws.{listed_fine, listed_quiet}
use Rattle.line_phrases.specs.PathsLaws.{path_fine, path_quiet}

pub passes_fine : Fine is_same passes
unfolding passes later_passes pass part
passes_fine = search (exact_word, count_fine, path_fine, path_quiet, listed_fine path, listed_quiet path) depth 20

pub passes_quiet : (t : Token) → is_word (codes "pass") t ≡ false → Quiet is_same passes t
unfolding passes later_passes pass
passes_quiet t e = search depth 12

pub pass_stepped : (found : List PassText) (tokens : List Token) (next : PassText) (rest : List Token) → starts (is_word (codes "pass")) tokens ≡ true → read pass tokens ≡ Ok (next, rest)
    → read (later_passes found) tokens ≡ read (later_passes (found ++ next ∷ [])) rest
unfolding later_passes pass
pass_stepped = list_stepped is_same pass refl

pub pass_stop : (found : List PassText) (tokens : List Token) (left : ℕ) → starts (is_word (codes "pass")) tokens ≡ true → read pass tokens ≡ Err left → read (later_passes found) tokens ≡ Err left
unfolding later_passes pass
pass_stop = list_stop is_same pass refl

pub pass_end : (found : List PassText) (tokens : List Token) → starts (is_word (codes "pass")) tokens ≡ false → read (later_passes found) tokens ≡ Ok (found, tokens)
unfolding later_passes pass
pass_end = list_end is_same pass refl

pub ruleset pass_steps = (pass_stepped, pass_stop, pass_end)
