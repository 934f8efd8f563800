-- The text of a path of names and small numbers is plain, and no other path has it.
use Rattle.csv_rows.proofs.Imports.{◌≡◌, ℕ, ◌<◌, ◌^◌, Bool, true, false, List, [], ◌∷◌, ◌++◌, refl, ap, append_assoc, arith, list_all, is_ascii_digit, decimal, nat_tests, decimal_injective, PathStep, Name, At, begins_name, continues_name, is_name, both, BeginsWithName, step_text, path_text_of, and_from, flat_map}
use Rattle.csv_rows.proofs.PlainTexts.{is_plain_byte, is_plain_text}
use Rattle.csv_rows.proofs.PrintedBytes.{all_joined, plain_letters, plain_digits, decimal_are}

-- each step is a name or a small number
abbrev pub IsPlainPath : List PathStep → Type 0
IsPlainPath [] = Unit {0}
IsPlainPath (Name name ∷ steps) = (is_name name ≡ true) × IsPlainPath steps
IsPlainPath (At number ∷ steps) = (number < 2 ^ 64) × IsPlainPath steps

-- the text of steps that are not the first
abbrev pub tail_text : List PathStep → List ℕ
tail_text steps = flat_map step_text steps

first_continues : (c : ℕ) → begins_name c ≡ true → continues_name c ≡ true
first_continues c begins = grind (arith, nat_tests)

-- the bytes of a name
name_letters : (name : List ℕ) → is_name name ≡ true → list_all continues_name name ≡ true
name_letters name named = grind (arith, both, list_all, and_from, first_continues)

-- a number in its brackets
at_text : (number : ℕ) (steps : List PathStep) → tail_text (At number ∷ steps) ≡ 91 ∷ (decimal number ++ (93 ∷ tail_text steps))
at_text number steps = ap (λ (t : List ℕ). 91 ∷ t) (append_assoc (decimal number) (93 ∷ []) (tail_text steps))

name_text : (name : List ℕ) (steps : List PathStep) → tail_text (Name name ∷ steps) ≡ 46 ∷ (name ++ tail_text steps)
name_text name steps = refl

digits_of_number : (number : ℕ) → number < 2 ^ 64 → list_all is_ascii_digit (decimal number) ≡ true
digits_of_number number small = (decimal_are number (omega arith)).all

tail_plain : (steps : List PathStep) → IsPlainPath steps → list_all is_plain_byte (tail_text steps) ≡ true
tail_plain [] plain = refl
tail_plain (Name name ∷ steps) plain = all_joined is_plain_byte name (tail_text steps) (plain_letters name (name_letters name plain.0)) (tail_plain steps plain.1)
tail_plain (At number ∷ steps) plain = grind (arith, list_all, at_text, all_joined, plain_digits, digits_of_number, (tail_plain steps plain.1))

some_text : (name text : List ℕ) → is_name name ≡ true → list_all is_plain_byte (name ++ text) ≡ true → is_plain_text (name ++ text) ≡ true
some_text name text named plain = grind arith

-- the text of a path is plain
pub path_plain : (path : List PathStep) → BeginsWithName path → IsPlainPath path → is_plain_text (path_text_of path) ≡ true
path_plain path begins plain = grind (arith, some_text, all_joined, plain_letters, name_letters, tail_plain)

-- a text that does not go on with a byte of the kind
abbrev StopsAt : (ℕ → Bool) → List ℕ → Type 0
StopsAt test [] = Unit {0}
StopsAt test (c ∷ text) = test c ≡ false

-- two fronts of one kind of bytes before texts that stop there
same_fronts : (test : ℕ → Bool) (a b t u : List ℕ) → list_all test a ≡ true → list_all test b ≡ true → StopsAt test t → StopsAt test u → a ++ t ≡ b ++ u → (a ≡ b) × (t ≡ u)
same_fronts test [] [] t u all_a all_b stop_t stop_u same = (refl, same)
same_fronts test [] (c ∷ b) [] u all_a all_b stop_t stop_u same = cc same
same_fronts test (c ∷ a) [] t [] all_a all_b stop_t stop_u same = cc same
same_fronts test (c ∷ a) (d ∷ b) t u all_a all_b stop_t stop_u same =
    let here : c ≡ d = cc same in
    let more : a ++ t ≡ b ++ u = cc same in
    let rest = same_fronts test a b t u (both (test c) (list_all test a) all_a).1 (both (test d) (list_all test b) all_b).1 stop_t stop_u more in
    let joined : c ∷ a ≡ d ∷ b = cc (here, rest.0) in
    (joined, rest.1)
same_fronts test a b t u all_a all_b stop_t stop_u same = grind (arith, both, list_all)

tail_stops : (steps : List PathStep) → StopsAt continues_name (tail_text steps)
tail_stops [] = tt
tail_stops (Name name ∷ steps) = refl
tail_stops (At number ∷ steps) = refl

-- steps of one text are the same
same_tails : (p q : List PathStep) → IsPlainPath p → IsPlainPath q → tail_text p ≡ tail_text q → p ≡ q
same_tails [] [] plain_p plain_q same = refl
same_tails [] (Name name ∷ q) plain_p plain_q same = cc same
same_tails (Name name ∷ p) (At number ∷ q) plain_p plain_q same = cc (name_text name p, at_text number q, same)
same_tails (At number ∷ p) (Name name ∷ q) plain_p plain_q same = cc (at_text number p, name_text name q, same)
same_tails (Name a ∷ p) (Name b ∷ q) plain_p plain_q same =
    let inner : a ++ tail_text p ≡ b ++ tail_text q = cc (name_text a p, name_text b q, same) in
    let parts = same_fronts continues_name a b (tail_text p) (tail_text q) (name_letters a plain_p.0) (name_letters b plain_q.0) (tail_stops p) (tail_stops q) inner in
    let rest : p ≡ q = same_tails p q plain_p.1 plain_q.1 parts.1 in
    cc (parts.0, rest)
same_tails (At m ∷ p) (At n ∷ q) plain_p plain_q same =
    let inner : decimal m ++ (93 ∷ tail_text p) ≡ decimal n ++ (93 ∷ tail_text q) = cc (at_text m p, at_text n q, same) in
    let parts = same_fronts is_ascii_digit (decimal m) (decimal n) (93 ∷ tail_text p) (93 ∷ tail_text q) (digits_of_number m plain_p.0) (digits_of_number n plain_q.0) refl refl inner in
    let number : m ≡ n = decimal_injective m n plain_p.0 plain_q.0 parts.0 in
    let tails : tail_text p ≡ tail_text q = cc parts.1 in
    let rest : p ≡ q = same_tails p q plain_p.1 plain_q.1 tails in
    cc (number, rest)
same_tails p q plain_p plain_q same = cc same

-- paths of one text are the same
pub same_paths : (p q : List PathStep) → BeginsWithName p → BeginsWithName q → IsPlainPath p → IsPlainPath q → path_text_of p ≡ path_text_of q → p ≡ q
same_paths (Name a ∷ p) (Name b ∷ q) begins_p begins_q plain_p plain_q same = grind (arith, same_fronts, name_letters, tail_stops, same_tails)
same_paths (Name a ∷ p) q begins_p begins_q plain_p plain_q same = absurd begins_q
same_paths p q begins_p begins_q plain_p plain_q same = absurd begins_p
