-- The version line of lines, by their first: what it says of the lines before it and behind it.
use Rattle.session_runs.proofs.Imports.{◌≡◌, ℕ, suc, ◌+◌, ◌≤◌, ltb, Bool, true, false, List, [], ◌∷◌, length, drop, Option, None, Some, option_map, refl, sym, ap, subst, ◌∙◌, arith, add-one, zero-add, drop-drop, if◌then◌else◌, slice_set, nat_tests, File, Version, version_of, is_blank_line, World, run_from, step_text, version_line, passes_blanks, one_later, by_first}

-- where lines have a version line, the first of them is it, or is blank
data Head (line : List ℕ) (lines : List (List ℕ)) : Option (ℕ × ℕ) → Type 0 where
  none : Head line lines None
  here : (number : ℕ) → Head line lines (Some (0, number))
  later : (found : ℕ × ℕ) → length line ≤ 4096 → is_blank_line line ≡ true → version_line lines ≡ Some found → Head line lines (Some (one_later found))

module _ (line : List ℕ) (lines : List (List ℕ)) where
  of_said : (said : Option ℕ) → Head line lines (option_map (λ number. (0, number)) said)
  of_said None = none
  of_said (Some number) = here number

  of_more : (more : Option (ℕ × ℕ)) → version_line lines ≡ more → length line ≤ 4096 → is_blank_line line ≡ true → Head line lines (option_map one_later more)
  of_more None is short blank = none
  of_more (Some found) is short blank = later found short blank is

  of_blank : (b : Bool) → is_blank_line line ≡ b → length line ≤ 4096 → Head line lines (if b then option_map one_later (version_line lines) else option_map (λ number. (0, number)) (version_of line))
  of_blank true is short = of_more (version_line lines) refl short is
  of_blank false is short = of_said (version_of line)

  short : ltb 4096 (length line) ≡ false → length line ≤ 4096
  short is = grind (arith, nat_tests)

  of_long : (b : Bool) → ltb 4096 (length line) ≡ b → Head line lines (by_first b (is_blank_line line) (version_of line) (version_line lines))
  of_long true is = none
  of_long false is = of_blank (is_blank_line line) refl (short is)

  head_of : Head line lines (version_line (line ∷ lines))
  head_of = of_long (ltb 4096 (length line)) refl

-- the run over lines with an empty one in the place of the version line is that over the lines behind it
abbrev pub Skips : Version → List File → Option ℕ → List (List ℕ) → ℕ → World → ℕ × ℕ → Type 0
Skips version files unread lines number world found =
    run_from (step_text version files) number world (slice_set lines found.0 []) unread ≡ run_from (step_text version files) (number + found.0 + 1) world (drop (found.0 + 1) lines) unread

skips_first : (version : Version) (files : List File) (unread : Option ℕ) (line : List ℕ) (lines : List (List ℕ)) (number : ℕ) (world : World)
    → ((found : ℕ × ℕ) → version_line lines ≡ Some found → Skips version files unread lines (number + 1) world found)
    → (found : ℕ × ℕ) → Head line lines (Some found) → Skips version files unread (line ∷ lines) number world found
skips_first version files unread line lines number world below _ (here n) =
    let place : number + 1 ≡ number + 0 + 1 = omega arith in
    passes_blanks version files number world [] lines unread (omega arith) refl ∙ ap (λ (k : ℕ). run_from (step_text version files) k world lines unread) place
skips_first version files unread line lines number world below _ (later found short blank is) =
    let outcome = step_text version files in
    let place : number + 1 + found.0 + 1 ≡ number + (found.0 + 1) + 1 = omega arith in
    ap (λ (k : ℕ). run_from outcome number world (slice_set (line ∷ lines) k []) unread) (add-one found.0)
    ∙ passes_blanks version files number world line (slice_set lines found.0 []) unread short blank
    ∙ below found is
    ∙ ap (λ (k : ℕ). run_from outcome k world (drop (found.0 + 1) lines) unread) place
    ∙ ap (λ (k : ℕ). run_from outcome (number + (found.0 + 1) + 1) world (drop k (line ∷ lines)) unread) (sym (add-one (found.0 + 1)))

pub skips : (version : Version) (files : List File) (unread : Option ℕ) (lines : List (List ℕ)) (number : ℕ) (world : World) (found : ℕ × ℕ) → version_line lines ≡ Some found → Skips version files unread lines number world found
skips version files unread [] number world found is = absurd (cc)
skips version files unread (line ∷ lines) number world found is =
    skips_first version files unread line lines number world (λ f e. skips version files unread lines (number + 1) world f e) found (subst (Head line lines) is (head_of line lines))

-- the version line behind so many blank lines
abbrev pub behind : ℕ → ℕ × ℕ → ℕ × ℕ
behind before found = (before + found.0, found.1)

-- so many lines are passed, which are blank, and the rest stands behind them
pub record IsPassed (lines : List (List ℕ)) (before : ℕ) (rest : List (List ℕ)) : Type 0 where
  pub head : version_line lines ≡ option_map (behind before) (version_line rest)
  pub rest_is : drop before lines ≡ rest
  pub count : before + length rest ≡ length lines

pub none_passed : (lines : List (List ℕ)) → IsPassed lines 0 lines
none_passed lines = record { head = same (version_line lines); rest_is = refl; count = omega arith } where
  same : (found : Option (ℕ × ℕ)) → found ≡ option_map (behind 0) found
  same None = refl
  same (Some found) = ap (λ (n : ℕ). Some (n, found.1)) (sym (zero-add found.0))

-- what stands behind one line more
pub rest_behind : (lines : List (List ℕ)) (before : ℕ) (rest : List (List ℕ)) (line : List ℕ) (more : List (List ℕ)) → IsPassed lines before rest → rest ≡ line ∷ more → drop (before + 1) lines ≡ more
rest_behind lines before rest line more passed is = sym (drop-drop 1 before lines) ∙ ap (drop 1) (passed.rest_is ∙ is)

-- one blank line more is passed
pub one_passed : (lines : List (List ℕ)) (before : ℕ) (rest : List (List ℕ)) (line : List ℕ) (more : List (List ℕ)) → IsPassed lines before rest → rest ≡ line ∷ more
    → version_line (line ∷ more) ≡ option_map one_later (version_line more) → IsPassed lines (before + 1) more
one_passed lines before rest line more passed is blank = record {
  head = passed.head ∙ ap (λ (ls : List (List ℕ)). option_map (behind before) (version_line ls)) is ∙ ap (option_map (behind before)) blank ∙ twice (version_line more);
  rest_is = rest_behind lines before rest line more passed is;
  count = let longer : length rest ≡ suc (length more) = ap length is in omega (arith, passed.count, longer);
} where
  twice : (found : Option (ℕ × ℕ)) → option_map (behind before) (option_map one_later found) ≡ option_map (behind (before + 1)) found
  twice None = refl
  twice (Some found) = let place : before + (found.0 + 1) ≡ before + 1 + found.0 = omega arith in ap (λ (n : ℕ). Some (n, found.1)) place

-- the lines that are left have no version line
pub headless : (lines : List (List ℕ)) (before : ℕ) (rest left : List (List ℕ)) → IsPassed lines before rest → rest ≡ left → version_line left ≡ None → version_line lines ≡ None
headless lines before rest left passed is missing = passed.head ∙ ap (λ (ls : List (List ℕ)). option_map (behind before) (version_line ls)) is ∙ ap (option_map (behind before)) missing

-- the first of them is the version line
pub headed : (lines : List (List ℕ)) (before : ℕ) (rest left : List (List ℕ)) (number : ℕ) → IsPassed lines before rest → rest ≡ left → version_line left ≡ Some (0, number) → version_line lines ≡ Some (before, number)
headed lines before rest left number passed is found =
    let place : before + 0 ≡ before = omega arith in
    passed.head ∙ ap (λ (ls : List (List ℕ)). option_map (behind before) (version_line ls)) is ∙ ap (option_map (behind before)) found ∙ ap (λ (n : ℕ). Some (n, number)) place
