-- Lists behind commas and in brackets are read by first tokens, and how their reading goes on.
use Rattle.std.specs.Prelude.{◌≡◌, ◌∷◌, ◌++◌}
use Rattle.line_phrases.specs.Imports.{ℕ, true, false, List, [], map, Ok, Err, refl, map-append, Grammar, starts, past, Fine, Quiet, behind_list_bare, behind_list_end, behind_list_stepped, behind_list_stop, is_same, is_sign, count_of, read, count, later, listed, bracket_list, cuts, fixed, extent_word, CloseBracket, Comma, Question, Token, Signed, arith}
use Rattle.line_phrases.specs.BasicsLaws.{apart, count_fine, exact_sign}

-- a list of phrases that do not go on with a comma
pub listed_fine : {A : Type 0} (one : Grammar Token A) → Fine is_same one → Quiet is_same one (Signed Comma) → Fine is_same (listed one)
unfolding listed later
listed_fine one f q = search (exact_sign) depth 12

-- what goes on neither with one of them nor is a comma does not go on with the list
pub listed_quiet : {A : Type 0} (one : Grammar Token A) (t : Token) → Quiet is_same one t → is_sign Comma t ≡ false → Quiet is_same (listed one) t
unfolding listed later
listed_quiet one t q e = search

pub bracket_list_fine : {A : Type 0} (one : Grammar Token A) → Fine is_same one → ((t : Token) → Quiet is_same one t) → Fine is_same (bracket_list one)
unfolding bracket_list
bracket_list_fine one f q = search (exact_sign, listed_fine, listed_quiet)

pub bracket_list_quiet : {A : Type 0} (one : Grammar Token A) (t : Token) → Quiet is_same (bracket_list one) t
unfolding bracket_list
bracket_list_quiet one t = search

pub cuts_fine : Fine is_same cuts
unfolding cuts listed
cuts_fine = search (exact_sign, count_fine, listed_fine count, listed_quiet count, apart (exact_sign CloseBracket) count_of refl) depth 12

pub cuts_quiet : (t : Token) → Quiet is_same cuts t
unfolding cuts listed
cuts_quiet t = search

pub fixed_fine : Fine is_same fixed
unfolding fixed
fixed_fine = search count_fine

pub fixed_quiet : (t : Token) → Quiet is_same fixed t
unfolding fixed
fixed_quiet t = search

pub extent_word_fine : Fine is_same extent_word
unfolding extent_word fixed
extent_word_fine = search (exact_sign, count_fine, apart (exact_sign Question) count_of refl) depth 12

pub extent_word_quiet : (t : Token) → Quiet is_same extent_word t
unfolding extent_word fixed
extent_word_quiet t = search

-- how reading goes on behind a comma and a phrase, where such a phrase stops, where the comma does, and where there is none

pub comma_stepped : {A : Type 0} (one : Grammar Token A) (found : List A) (tokens us : List Token) (next : A) (rest : List Token) → starts (is_sign Comma) tokens ≡ true
    → past (is_sign Comma) tokens ≡ Ok us → read one us ≡ Ok (next, rest) → read (later one found) tokens ≡ read (later one (found ++ next ∷ [])) rest
unfolding later
comma_stepped one = behind_list_stepped is_same (Signed Comma) one

pub comma_stop : {A : Type 0} (one : Grammar Token A) (found : List A) (tokens us : List Token) (left : ℕ) → starts (is_sign Comma) tokens ≡ true
    → past (is_sign Comma) tokens ≡ Ok us → read one us ≡ Err left → read (later one found) tokens ≡ Err left
unfolding later
comma_stop one = behind_list_stop is_same (Signed Comma) one

pub comma_bare : {A : Type 0} (one : Grammar Token A) (found : List A) (tokens : List Token) (left : ℕ) → starts (is_sign Comma) tokens ≡ true
    → past (is_sign Comma) tokens ≡ Err left → read (later one found) tokens ≡ Err left
unfolding later
comma_bare one = behind_list_bare is_same (Signed Comma) one

pub comma_end : {A : Type 0} (one : Grammar Token A) (found : List A) (tokens : List Token) → starts (is_sign Comma) tokens ≡ false → read (later one found) tokens ≡ Ok (found, tokens)
unfolding later
comma_end one = behind_list_end is_same (Signed Comma) one

pub ruleset comma_steps = (comma_stepped, comma_stop, comma_bare, comma_end)

-- the same where the list is that of the values of what was found
pub viewed_stepped : {A B : Type 0} (view : B → A) (one : Grammar Token A) (found : List B) (tokens us : List Token) (next : B) (rest : List Token) → starts (is_sign Comma) tokens ≡ true
    → past (is_sign Comma) tokens ≡ Ok us → read one us ≡ Ok (view next, rest) → read (later one (map view found)) tokens ≡ read (later one (map view (found ++ next ∷ []))) rest
viewed_stepped view one found tokens us next rest passes is then = grind (arith, comma_stepped, map-append)

pub ruleset viewed_steps = (viewed_stepped, comma_stop, comma_bare, comma_end)
