-- A path is read by first tokens, and how its reading goes on.
use Rattle.line_phrases.specs.Imports.{or_cases, ℕ, true, false, List, [], Ok, Err, refl, first, starts, Fine, Quiet, may_be_empty, list_end, list_stepped, list_stop, is_same, read, part, parts, path, sign_only, PathStep, Token, arith}
use Rattle.std.specs.Prelude.{◌≡◌, ◌∷◌, ◌++◌}
use Rattle.line_phrases.specs.BasicsLaws.{count_fine, exact_sign, level_of, name_fine}

part_fine : Fine is_same part
unfolding part
part_fine = search (name_fine, count_fine, exact_sign)

-- behind a part anything may follow
part_quiet : (t : Token) → Quiet is_same part t
unfolding part
part_quiet t = search

pub part_level : (t : Token) → first is_same part t ≡ true → 6 ≡ level_of t
unfolding part
part_level t h = grind (arith, or_cases, sign_only)

pub path_fine : Fine is_same path
unfolding path parts part
path_fine = search (name_fine, part_fine, part_quiet) depth 12

-- what begins no part does not go on with a path
pub path_quiet : (t : Token) → first is_same part t ≡ false → Quiet is_same path t
unfolding path parts
path_quiet t e = search (part_quiet)

part_solid : may_be_empty part ≡ false
unfolding part
part_solid = refl

pub parts_stepped : (found : List PathStep) (tokens : List Token) (next : PathStep) (rest : List Token) → starts (first is_same part) tokens ≡ true → read part tokens ≡ Ok (next, rest)
    → read (parts found) tokens ≡ read (parts (found ++ next ∷ [])) rest
unfolding parts
parts_stepped = list_stepped is_same part part_solid

pub parts_stop : (found : List PathStep) (tokens : List Token) (left : ℕ) → starts (first is_same part) tokens ≡ true → read part tokens ≡ Err left → read (parts found) tokens ≡ Err left
unfolding parts
parts_stop = list_stop is_same part part_solid

pub parts_end : (found : List PathStep) (tokens : List Token) → starts (first is_same part) tokens ≡ false → read (parts found) tokens ≡ Ok (found, tokens)
unfolding parts
parts_end = list_end is_same part part_solid

pub ruleset path_steps = (parts_stepped, parts_stop, parts_end)
