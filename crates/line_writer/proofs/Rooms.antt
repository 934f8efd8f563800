-- The canonical tokens of expressions and kernels are spelled, and open few brackets at once.
use Rattle.line_writer.proofs.Imports.{◌≡◌, ℕ, ◌+◌, ◌≤◌, List, [], ◌∷◌, ◌++◌, map, length, codes, refl, append-nil, append_assoc, arith, max, ℤ, true, false, Bool, not, ◌&&◌, if◌then◌else◌, flat_map, list_all, map-append, AllPass-from_list_all, le-max_left, le-max_right, AreSpelled, Written, Comma, CloseBracket, OpenParen, CloseParen, Minus, OpenBracket, Token, Word, Sign, Value, PathStep, BinOp, depth_of, Constant, Entry, Index, Neg, Not, Binary, number, part, parts, path, operator, is_letter, is_word_byte, Begins, opens, closes, SignName, with_commas, number_tokens, path_tokens, form_tokens, value_tokens, is_choice, operand, bracket_list, step_tokens, needs_brackets, first_tokens, written}
use Rattle.line_writer.proofs.Gives.{IsSpelled, Each, each_front, each_back}
use Rattle.line_writer.proofs.Leaves.{IsGood}

-- the tokens are spelled, close all brackets that they open, and have at most k of them open at once
pub record Fits (k : ℕ) (tokens : List Token) : Type 0 where
  pub at : (brackets : ℕ) (rest : List Written) → brackets + k ≤ 64 → AreSpelled brackets rest → AreSpelled brackets (map written tokens ++ rest)

pub no_tokens_fit : Fits 0 []
no_tokens_fit = record { at = λ b rest small h. h }

pub fits_more : (k m : ℕ) (tokens : List Token) → k ≤ m → Fits k tokens → Fits m tokens
fits_more k m tokens less f = record { at = λ b rest small h. f.at b rest (omega arith) h }

pub fits_append : (k : ℕ) (xs ys : List Token) → Fits k xs → Fits k ys → Fits k (xs ++ ys)
fits_append k xs ys f g = grind (arith, map-append, append_assoc)

-- a token that is no bracket
abbrev is_flat : Token → Bool
is_flat (Sign sign) = not (opens sign) && not (closes sign)
is_flat _ = true

pub fits_flat : (k : ℕ) (token : Token) (tokens : List Token) → is_flat token ≡ true → IsSpelled token → Fits k tokens → Fits k (token ∷ tokens)
fits_flat k token tokens e spelled f = grind arith

-- tokens in brackets
pub fits_inside : (k : ℕ) (opening closing : SignName) (tokens : List Token) → opens opening ≡ true → opens closing ≡ false → closes closing ≡ true → Fits k tokens →
    Fits (k + 1) (Sign opening ∷ (tokens ++ Sign closing ∷ []))
fits_inside k opening closing tokens o p c f = grind (arith, map-append, append_assoc)

-- words and signs of the language are spelled
pub word_spelled : (text : List ℕ) → Begins is_letter text → list_all is_word_byte text ≡ true → length text ≤ 32 → IsSpelled (Word text)
word_spelled text begins all short = (begins, AllPass-from_list_all is_word_byte text all, short)

pub fits_word : (k : ℕ) (text : List ℕ) (tokens : List Token) → Begins is_letter text → list_all is_word_byte text ≡ true → length text ≤ 32 → Fits k tokens → Fits k (Word text ∷ tokens)
fits_word k text tokens first all short f = fits_flat k (Word text) tokens refl (word_spelled text first all short) f

operator_spelled : (op : BinOp) → IsSpelled (operator op)
operator_spelled op = grind (arith, word_spelled)

operator_flat : (op : BinOp) → is_flat (operator op) ≡ true
operator_flat op = grind arith

pub fits_operator : (k : ℕ) (op : BinOp) (tokens : List Token) → Fits k tokens → Fits k (operator op ∷ tokens)
fits_operator k op tokens f = fits_flat k (operator op) tokens (operator_flat op) (operator_spelled op) f

-- one token, and a number in brackets
pub one_fits : (token : Token) → is_flat token ≡ true → IsSpelled token → Fits 0 (token ∷ [])
one_fits token e spelled = fits_flat 0 token [] e spelled no_tokens_fit

-- a path
first_fits : (first : PathStep) → Each IsSpelled (first_tokens first) → Fits 1 (first_tokens first)
first_fits first h = grind (arith, fits_more, one_fits)

steps_fit : (steps : List PathStep) → Each IsSpelled (flat_map step_tokens steps) → Fits 1 (flat_map step_tokens steps)
steps_fit [] h = fits_more 0 1 [] (omega arith) no_tokens_fit
steps_fit (next ∷ steps) h = grind (arith, fits_append, flat_map, each_front, each_back, (steps_fit steps (each_back IsSpelled (step_tokens next) (flat_map step_tokens steps) h)))

pub path_fits : (path : List PathStep) → Each IsSpelled (path_tokens path) → Fits 1 (path_tokens path)
path_fits [] h = fits_more 0 1 [] (omega arith) no_tokens_fit
path_fits (first ∷ steps) h = grind (arith, fits_append, flat_map, first_fits, each_front, steps_fit, each_back)

-- numbers
pub number_fits : (number : ℤ) → Each IsSpelled (number_tokens number) → Fits 0 (number_tokens number)
number_fits number h = grind (arith, one_fits, fits_flat)

-- an expression has at most as many brackets open as it is deep
operand_in : (k : ℕ) (b : Bool) (tokens : List Token) → Fits k tokens → Fits (k + 1) (if b then Sign OpenParen ∷ (tokens ++ Sign CloseParen ∷ []) else tokens)
operand_in k b tokens f = grind (arith, fits_inside, fits_more)

operand_fits : (k : ℕ) (v : Value) (tokens : List Token) → Fits k tokens → Fits (k + 1) (operand v tokens)
operand_fits k v tokens f = operand_in k (needs_brackets v) tokens f

binary_fits : (k m : ℕ) (b : Bool) (op : BinOp) (left right : Value) (xs ys : List Token) → Fits k xs → Fits m ys →
    Fits (max k m + 1) (if b then operator op ∷ Sign OpenParen ∷ (xs ++ Sign Comma ∷ (ys ++ Sign CloseParen ∷ [])) else operand left xs ++ operator op ∷ operand right ys)
binary_fits k m true op left right xs ys f g =
    let all = fits_append (max k m) xs (Sign Comma ∷ ys) (fits_more k (max k m) xs (le-max_left k m) f) (fits_flat (max k m) (Sign Comma) ys refl refl (fits_more m (max k m) ys (le-max_right k m) g)) in
    fits_operator (max k m + 1) op _ (rw append_assoc at (fits_inside (max k m) OpenParen CloseParen (xs ++ Sign Comma ∷ ys) refl refl refl all))
binary_fits k m false op left right xs ys f g =
    let more = le-max_left k m in let more' = le-max_right k m in
    fits_append (max k m + 1) (operand left xs) (operator op ∷ operand right ys) (fits_more (k + 1) (max k m + 1) _ (omega arith) (operand_fits k left xs f))
    (fits_operator (max k m + 1) op (operand right ys) (fits_more (m + 1) (max k m + 1) _ (omega arith) (operand_fits m right ys g)))

pub value_fits : (v : Value) → IsGood v → Fits (depth_of v) (value_tokens v)
value_fits (Constant number) good = fits_more 0 1 _ (omega arith) (number_fits number good.spelled)
value_fits (Entry path) good = path_fits path good.spelled
value_fits (Index dimension) good = fits_more 0 1 _ (omega arith) (one_fits _ refl good.spelled.0)
value_fits (Neg inner) good = fits_flat (depth_of inner + 1) (Sign Minus) _ refl refl (operand_fits (depth_of inner) inner (value_tokens inner) (value_fits inner good))
value_fits (Not inner) good = fits_flat (depth_of inner + 1) (Word (codes "not")) _ refl (word_spelled (codes "not") refl refl (omega arith)) (operand_fits (depth_of inner) inner (value_tokens inner) (value_fits inner good))
value_fits (Binary op left right) good = binary_fits (depth_of left) (depth_of right) (is_choice op) op left right (value_tokens left) (value_tokens right) (value_fits left good.0) (value_fits right good.1)

-- parts with commas, and forms
pub commas_fit : (k : ℕ) (parts : List (List Token)) → Each (Fits k) parts → Fits k (with_commas parts)
commas_fit k [] h = fits_more 0 k [] (omega arith) no_tokens_fit
commas_fit k (part ∷ parts) h = fits_append k part (flat_map (λ next. Sign Comma ∷ next) parts) h.0 (later_fit k parts h.1)
  where
    later_fit : (k : ℕ) (parts : List (List Token)) → Each (Fits k) parts → Fits k (flat_map (λ next. Sign Comma ∷ next) parts)
    later_fit k [] h = fits_more 0 k [] (omega arith) no_tokens_fit
    later_fit k (part ∷ parts) h = fits_flat k (Sign Comma) _ refl refl (fits_append k part (flat_map (λ next. Sign Comma ∷ next) parts) h.0 (later_fit k parts h.1))

pub form_fits : (k : ℕ) (word : List ℕ) (inside : List Token) → IsSpelled (Word word) → Fits k inside → Fits (k + 1) (form_tokens word inside)
form_fits k word inside spelled f = fits_flat (k + 1) (Word word) _ refl spelled (fits_inside k OpenParen CloseParen inside refl refl refl f)

pub bracket_list_fits : (k : ℕ) (parts : List (List Token)) → Each (Fits k) parts → Fits (k + 1) (bracket_list parts)
bracket_list_fits k parts h = fits_inside k OpenBracket CloseBracket (with_commas parts) refl refl refl (commas_fit k parts h)

-- such tokens alone have room
pub fits_alone : (tokens : List Token) → Fits 64 tokens → AreSpelled 0 (map written tokens)
fits_alone tokens f = rw append-nil at (f.at 0 [] (omega arith) tt)
