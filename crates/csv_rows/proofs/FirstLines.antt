-- The first line of a text, and its fields.
use Rattle.csv_rows.proofs.Imports.{◌≡◌, ℕ, zero, suc, ◌+◌, ◌-◌, ◌<◌, ◌≤◌, Bool, true, false, List, [], ◌∷◌, length, take, drop, get_or, Some, None, refl, sym, ap, subst, ◌∙◌, ⊎_elim, arith, ◌||◌, if◌then◌else◌, slice_get, slice_split, cases_lt, false_from_ne_true, nat_tests, drop-take, drop-drop, take-take, length-take-le, length-drop, get_or-take, get_or_default, IsFirstByte, is_byte2, is_byte3, is_comma, is_line_end, line_length, first_line, behind_line, IsFirstField, IsField, IsFieldHere, nat_eq}
use Rattle.csv_rows.proofs.Fields.{field_found, field_behind, fields_end}

-- a line lies in its text, none of its bytes ends it, and it ends at the text's end or where a byte ends it
pub line_within : (xs : List ℕ) → line_length xs ≤ length xs
line_within [] = omega arith
line_within (c ∷ xs) = by (is_line_end c) (line_within xs) where
  by : (b : Bool) → line_length xs ≤ length xs → (if b then 0 else suc (line_length xs)) ≤ suc (length xs)
  by true more = omega arith
  by false more = omega (arith, more)

pub line_inside : (xs : List ℕ) (k d : ℕ) → k < line_length xs → is_line_end (get_or xs k d) ≡ false
line_inside [] k d small = absurd (omega arith)
line_inside (c ∷ xs) k d small = by (is_line_end c) refl k (λ j. line_inside xs j d) small where
  by : (b : Bool) → is_line_end c ≡ b → (k : ℕ) → ((j : ℕ) → j < line_length xs → is_line_end (get_or xs j d) ≡ false) → k < (if b then 0 else suc (line_length xs)) → is_line_end (get_or (c ∷ xs) k d) ≡ false
  by true is k more small = absurd (omega arith)
  by false is zero more small = is
  by false is (suc k) more small = more k (omega arith)

-- so many bytes that do not end it belong to it
pub line_from : (xs : List ℕ) (n : ℕ) → n ≤ length xs → ((k : ℕ) → k < n → is_line_end (get_or xs k 0) ≡ false) → n ≤ line_length xs
line_from xs zero within others = omega arith
line_from [] (suc n) within others = absurd (omega arith)
line_from (c ∷ xs) (suc n) within others = by (is_line_end c) refl (line_from xs n (omega arith) (λ k small. others (suc k) (omega arith))) where
  by : (b : Bool) → is_line_end c ≡ b → n ≤ line_length xs → suc n ≤ (if b then 0 else suc (line_length xs))
  by true is more = cc (sym is ∙ others 0 (omega arith))
  by false is more = omega (arith, more)

-- and no byte from one on that ends it
pub line_to : (xs : List ℕ) (n : ℕ) → (n < length xs → is_line_end (get_or xs n 0) ≡ true) → line_length xs ≤ n
line_to xs n ended = grind (arith, line_inside, line_within, cases_lt)

pub line_is : (xs : List ℕ) (n : ℕ) → n ≤ length xs → ((k : ℕ) → k < n → is_line_end (get_or xs k 0) ≡ false) → (n < length xs → is_line_end (get_or xs n 0) ≡ true) → n ≡ line_length xs
line_is xs n within others ended = omega (arith, line_from xs n within others, line_to xs n ended)

pub line_ended : (xs : List ℕ) → line_length xs < length xs → is_line_end (get_or xs (line_length xs) 0) ≡ true
line_ended [] small = absurd (omega arith)
line_ended (c ∷ xs) small = by (is_line_end c) refl (line_ended xs) small where
  by : (b : Bool) → is_line_end c ≡ b → (line_length xs < length xs → is_line_end (get_or xs (line_length xs) 0) ≡ true) → (if b then 0 else suc (line_length xs)) < suc (length xs) → is_line_end (get_or (c ∷ xs) (if b then 0 else suc (line_length xs)) 0) ≡ true
  by true is more small = is
  by false is more small = more (omega arith)

-- the rest of a line
pub line_rest : (xs : List ℕ) (n : ℕ) → n ≤ line_length xs → line_length (drop n xs) ≡ line_length xs - n
line_rest xs zero small = omega arith
line_rest [] (suc n) small = absurd (omega arith)
line_rest (c ∷ xs) (suc n) small = by (is_line_end c) (line_rest xs n) small where
  by : (b : Bool) → (n ≤ line_length xs → line_length (drop n xs) ≡ line_length xs - n) → suc n ≤ (if b then 0 else suc (line_length xs)) → line_length (drop n xs) ≡ (if b then 0 else suc (line_length xs)) - suc n
  by true more small = absurd (omega arith)
  by false more small = omega (arith, more (omega arith))

pub first_rest : (xs : List ℕ) (n : ℕ) → n ≤ line_length xs → drop n (first_line xs) ≡ first_line (drop n xs)
first_rest xs n small =
    let whole : line_length xs ≡ n + (line_length xs - n) = omega (arith, small) in
    ap (λ (m : ℕ). drop n (take m xs)) whole ∙ drop-take n (line_length xs - n) xs ∙ ap (λ (m : ℕ). take m (drop n xs)) (sym (line_rest xs n small))

pub length_line : (xs : List ℕ) → length (first_line xs) ≡ line_length xs
length_line xs = length-take-le (line_length xs) xs (line_within xs)

-- where a field begins lies in the line
pub start_within : (text : List ℕ) (column start : ℕ) → IsField (first_line text) column start → start ≤ line_length text
start_within text column start at = omega (arith, at.within, length_line text)

-- the bytes of a field
here_byte : (bytes : List ℕ) (count k : ℕ) → IsFieldHere bytes count → k < count → (is_comma (get_or bytes k 0) ≡ false) × (is_line_end (get_or bytes k 0) ≡ false)
here_byte bytes count k here small = grind (arith, length-take-le, get_or-take)

pub here_in_line : (bytes : List ℕ) (count : ℕ) → IsFieldHere bytes count → count ≤ line_length bytes
here_in_line bytes count here = line_from bytes count here.within (λ k small. (here_byte bytes count k here small).1)

or_first : (a b : Bool) → (a || b) ≡ true → b ≡ false → a ≡ true
or_first a b is other = grind arith

or_second : (a b : Bool) → (a || b) ≡ true → a ≡ false → b ≡ true
or_second a b is other = grind arith

none_of : (a b c : Bool) → (a || b || c) ≡ false → ((b || c) ≡ false) × (a ≡ false)
none_of a b c h = grind arith

-- the bytes before the first one of a kind or line end
pub byte_before : (a : ℕ) (xs : List ℕ) (n k d : ℕ) → n ≤ length xs → ((k : ℕ) → k < n → is_byte3 a 13 10 (get_or xs k 0) ≡ true → ⊥) → k < length (take n xs) → (nat_eq (get_or (take n xs) k d) a ≡ false) × (is_line_end (get_or (take n xs) k d) ≡ false)
byte_before a xs n k d within none less = grind (arith, length-take-le, get_or-take, get_or_default, none_of, nat_eq, false_from_ne_true, is_byte3)

-- it is the first one of the line that is left
here_first : (bytes : List ℕ) (count : ℕ) → IsFieldHere bytes count → IsFirstField (first_line bytes) count
here_first bytes count here =
    let fits : count ≤ line_length bytes = here_in_line bytes count here in
    let cut : take count (first_line bytes) ≡ take count bytes = take-take count (line_length bytes) bytes fits in
    grind (arith, length_line, get_or-take, or_first, line_within, line_inside)

here_field : (text : List ℕ) (column start count : ℕ) → IsField (first_line text) column start → IsFieldHere (drop start text) count → IsFirstField (drop start (first_line text)) count
here_field text column start count at here = subst (λ (xs : List ℕ). IsFirstField xs count) (sym (first_rest text start (start_within text column start at))) (here_first (drop start text) count here)

-- the field of a column, what follows it, and that nothing does
pub here_found : (text : List ℕ) (column start count : ℕ) → IsField (first_line text) column start → IsFieldHere (drop start text) count → slice_get (slice_split is_comma (first_line text)) column ≡ Some (take count (drop start text))
here_found text column start count at here =
    let bytes = drop start text in
    field_found (first_line text) column start count at (here_field text column start count at here)
    ∙ ap (λ (xs : List ℕ). Some (take count xs)) (first_rest text start (start_within text column start at))
    ∙ ap (λ (xs : List ℕ). Some xs) (take-take count (line_length bytes) bytes (here_in_line bytes count here))

no_end : (c : ℕ) → is_comma c ≡ true → is_line_end c ≡ false
no_end c comma = grind (arith, nat_tests)

comma_inside : (bytes : List ℕ) (count : ℕ) → IsFieldHere bytes count → count < length bytes → is_comma (get_or bytes count 0) ≡ true → count < line_length bytes
comma_inside bytes count here small comma = ⊎_elim
    (λ (less : count < line_length bytes). less)
    (λ (over : line_length bytes ≤ count).
    let same : line_length bytes ≡ count = omega (arith, over, here_in_line bytes count here) in
    let end : is_line_end (get_or bytes (line_length bytes) 0) ≡ true = line_ended bytes (omega (arith, same, small)) in
    cc (sym (no_end (get_or bytes count 0) comma) ∙ ap (λ (k : ℕ). is_line_end (get_or bytes k 0)) (sym same) ∙ end))
    (cases_lt count (line_length bytes))

left_length : (text : List ℕ) (column start : ℕ) → IsField (first_line text) column start → length (drop start (first_line text)) ≡ line_length (drop start text)
left_length text column start at = grind (arith, start_within, length-drop, length_line, line_rest)

pub here_behind : (text : List ℕ) (column start count : ℕ) → IsField (first_line text) column start → IsFieldHere (drop start text) count → count < length (drop start text) → is_comma (get_or (drop start text) count 0) ≡ true → IsField (first_line text) (column + 1) (start + (count + 1))
here_behind text column start count at here small comma =
    let inside : count < line_length (drop start text) = comma_inside (drop start text) count here small comma in
    field_behind (first_line text) column start count at (here_field text column start count at here) (omega (arith, inside, left_length text column start at))

here_length : (bytes : List ℕ) (count : ℕ) → IsFieldHere bytes count → (count < length bytes → is_comma (get_or bytes count 0) ≡ false) → count ≡ line_length bytes
here_length bytes count here other = line_is bytes count here.within (λ k small. (here_byte bytes count k here small).1)
    (λ small. or_second (is_comma (get_or bytes count 0)) (is_line_end (get_or bytes count 0)) (here.ended small) (other small))

pub here_end : (text : List ℕ) (column start count : ℕ) → IsField (first_line text) column start → IsFieldHere (drop start text) count → (count < length (drop start text) → is_comma (get_or (drop start text) count 0) ≡ false) → start + count ≡ line_length text
here_end text column start count at here other =
    let small : start ≤ line_length text = start_within text column start at in
    omega (arith, here_length (drop start text) count here other, line_rest text start small, small)

pub here_last : (text : List ℕ) (column start count : ℕ) → IsField (first_line text) column start → IsFieldHere (drop start text) count → (count < length (drop start text) → is_comma (get_or (drop start text) count 0) ≡ false) → length (slice_split is_comma (first_line text)) ≤ column + 1
here_last text column start count at here other =
    fields_end (first_line text) column start count at (here_field text column start count at here) (omega (arith, here_length (drop start text) count here other, left_length text column start at))

-- what stands behind a line, whose end was looked for from one of its places on
pub behind_found : (text : List ℕ) (start n : ℕ) → start ≤ line_length text → n ≡ line_length (drop start text) → drop n (drop start text) ≡ behind_line text
behind_found text start n small is = grind (arith, line_rest, drop-drop)

pub end_some : (xs : List ℕ) (n : ℕ) → IsFirstByte (is_byte2 13 10) xs (Some n) → n ≡ line_length xs
end_some xs n found = grind (arith, line_is, false_from_ne_true)

pub end_none : (xs : List ℕ) → IsFirstByte (is_byte2 13 10) xs None → length xs ≡ line_length xs
end_none xs none = line_is xs (length xs) (omega arith) (λ k under. false_from_ne_true (is_line_end (get_or xs k 0)) (none k (omega arith) under)) (λ small. absurd (omega arith))
