-- The version line of lines, by their first.
use Rattle.std.specs.Prelude.{◌≡◌, ℕ, ◌+◌, ◌<◌, ◌≤◌, ltb, Bool, true, false, List, ◌∷◌, length, Option, None, option_map, if◌then◌else◌}
use Rattle.session_runs.specs.Imports.{ap, ◌∙◌, arith, nat_tests, version_of, is_blank_line}
use Rattle.session_runs.specs.Scripts.{version_line}

-- the version line behind a blank line
abbrev pub one_later : ℕ × ℕ → ℕ × ℕ
one_later found = (found.0 + 1, found.1)

-- the version line by whether the first line is too long, whether it is blank, and its number
abbrev pub by_first : Bool → Bool → Option ℕ → Option (ℕ × ℕ) → Option (ℕ × ℕ)
by_first long blank said more = if long then None else (if blank then option_map one_later more else option_map (λ number. (0, number)) said)

over : (n : ℕ) → 4096 < n → ltb 4096 n ≡ true
over n long = grind (arith, nat_tests)

within : (n : ℕ) → n ≤ 4096 → ltb 4096 n ≡ false
within n short = grind (arith, nat_tests)

-- a first line that is too long
pub long_first : (line : List ℕ) (lines : List (List ℕ)) → 4096 < length line → version_line (line ∷ lines) ≡ None
long_first line lines long = ap (λ (b : Bool). by_first b (is_blank_line line) (version_of line) (version_line lines)) (over (length line) long)

-- a blank one
pub blank_first : (line : List ℕ) (lines : List (List ℕ)) → length line ≤ 4096 → is_blank_line line ≡ true → version_line (line ∷ lines) ≡ option_map one_later (version_line lines)
blank_first line lines short blank =
    ap (λ (b : Bool). by_first b (is_blank_line line) (version_of line) (version_line lines)) (within (length line) short)
    ∙ ap (λ (b : Bool). by_first false b (version_of line) (version_line lines)) blank

-- any other
pub said_first : (line : List ℕ) (lines : List (List ℕ)) (said : Option ℕ) → length line ≤ 4096 → is_blank_line line ≡ false → version_of line ≡ said
    → version_line (line ∷ lines) ≡ option_map (λ number. (0, number)) said
said_first line lines said short blank is =
    ap (λ (b : Bool). by_first b (is_blank_line line) (version_of line) (version_line lines)) (within (length line) short)
    ∙ ap (λ (b : Bool). by_first false b (version_of line) (version_line lines)) blank
    ∙ ap (λ (o : Option ℕ). by_first false false o (version_line lines)) is
