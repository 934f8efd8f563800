-- Blank lines do nothing in a run.
use Rattle.std.specs.Prelude.{◌≡◌, ℕ, ◌+◌, ◌≤◌, ◌==◌, ltb, Bool, true, false, List, [], ◌∷◌, length, Result, Ok, refl, if◌then◌else◌}
use Rattle.session_runs.specs.Imports.{ap, ◌∙◌, arith, nat_tests, File, Spot, tokens_of, Sentence, Blank, line, Version, line_at, line_of, line_or_column, spots_in, is_blank_line, World, Outcome, Faults, Left, quiet, sure, step, run_from, after, fails_at, LineTooLong}
use Rattle.session_runs.specs.Steps.{step_text, step_line}
use Rattle.session_runs.specs.Heads.{PassesBlanks}

none_of : (n : ℕ) → (n == 0) ≡ true → n ≡ 0
none_of n is = grind (arith, nat_tests)

no_spots : (spots : List Spot) → (length spots == 0) ≡ true → spots ≡ []
no_spots [] none = refl
no_spots (spot ∷ spots) none = let zero : length (spot ∷ spots) ≡ 0 = none_of (length (spot ∷ spots)) none in absurd (omega (arith, zero))

-- a text without tokens is the line that does nothing
blank_line : (version : Version) (text : List ℕ) → is_blank_line text ≡ true → line_of version text ≡ Ok Blank
unfolding line_of line_at line
blank_line version text blank = ap (λ (spots : List Spot). line_or_column spots (line_at version (tokens_of text spots))) (no_spots (spots_in text) blank)

blank_text : (version : Version) (files : List File) (world : World) (text : List ℕ) (unread : Bool) → length text ≤ 4096 → is_blank_line text ≡ true
    → step_text version files world text unread ≡ sure (quiet world)
unfolding step
blank_text version files world text unread short blank =
    let within : ltb 4096 (length text) ≡ false = grind (arith, nat_tests) in
    ap (λ (b : Bool). if b then Faults LineTooLong else step_line files world (line_of version text) unread) within
    ∙ ap (λ (read : Result Sentence ℕ). step_line files world read unread) (blank_line version text blank)

-- the lines behind it are those that are done
pub passes_blanks : (version : Version) (files : List File) → PassesBlanks version files
passes_blanks version files number world line lines unread short blank =
    ap (λ (o : Outcome Left). after number o (λ next. run_from (step_text version files) (number + 1) next lines unread)) (blank_text version files world line (fails_at unread number) short blank)
