-- The bytes of names and of decimal texts, which stand in a line as they are.
use Rattle.csv_rows.proofs.Imports.{◌≡◌, ℕ, ◌+◌, ◌*◌, ◌/◌, ◌%◌, ◌^◌, ◌<◌, ◌≤◌, Bool, true, false, nat_eq, List, [], ◌∷◌, ◌++◌, get_or, reverse, ℤ, pos, neg_ℤ, Some, refl, sym, ap, subst, ◌∙◌, arith, All, list_all, is_ascii_digit, digit_value, decimal, digits_value, digits_value_after, nat_tests, decimal_by_steps_wide, reverse-reverse, reverse-append, list_all-append, AllPass-from_list_all, digit_value_digit, continues_name, both, digits_text, decimal-digits_text, is_blank, behind_blanks, before_blanks, unspaced, digits_number, number_behind_sign, is_comma, is_line_end, and_from, false_from_ne_true, not, ◌||◌, option_map}
use Rattle.csv_rows.proofs.PlainLines.{number_is}
use Rattle.csv_rows.proofs.PlainTexts.{is_plain_byte, is_plain_text}

-- what each byte of two texts is, each of both together is
pub all_joined : (test : ℕ → Bool) (xs ys : List ℕ) → list_all test xs ≡ true → list_all test ys ≡ true → list_all test (xs ++ ys) ≡ true
all_joined test xs ys a b = list_all-append test xs ys ∙ and_from (list_all test xs) (list_all test ys) a b

-- what a plain byte is not
pub record IsPlainByte (c : ℕ) : Type 0 where
  pub comma : is_comma c ≡ false
  pub quote : nat_eq c 34 ≡ false
  pub ending : is_line_end c ≡ false
  pub blank : is_blank c ≡ false
  pub mark : nat_eq c 239 ≡ false

none_of : (a b c d e f g : Bool) → not (a || (b || (c || (d || (e || (f || (g || false))))))) ≡ true
    → (a ≡ false) × (b ≡ false) × (c ≡ false) × (d ≡ false) × (e ≡ false) × (f ≡ false) × (g ≡ false)
none_of a b c d e f g h = grind arith

pub plain_byte : (c : ℕ) → is_plain_byte c ≡ true → IsPlainByte c
plain_byte c plain = grind (arith, none_of, nat_eq)

-- the same of each byte of a text
pub plain_bytes : (P : ℕ → Type 0) → ((c : ℕ) → IsPlainByte c → P c) → (xs : List ℕ) → list_all is_plain_byte xs ≡ true → All P xs
plain_bytes P of xs plain = λ k d small. of (get_or xs k d) (plain_byte (get_or xs k d) (AllPass-from_list_all is_plain_byte xs plain k d small))

all_reversed : (xs : List ℕ) → list_all is_plain_byte xs ≡ true → list_all is_plain_byte (reverse xs) ≡ true
all_reversed [] plain = refl
all_reversed (c ∷ xs) plain =
    let (one, rest) = both (is_plain_byte c) (list_all is_plain_byte xs) plain in
    ap (list_all is_plain_byte) (reverse-append (c ∷ []) xs)
    ∙ all_joined is_plain_byte (reverse xs) (c ∷ []) (all_reversed xs rest) (and_from (is_plain_byte c) true one refl)

front_same : (xs : List ℕ) → list_all is_plain_byte xs ≡ true → behind_blanks xs ≡ xs
front_same [] plain = refl
front_same (c ∷ xs) plain = grind (arith, plain_byte, both, list_all)

-- no blank stands at its ends
pub unspaced_same : (xs : List ℕ) → list_all is_plain_byte xs ≡ true → unspaced xs ≡ xs
unspaced_same xs plain = ap before_blanks (front_same xs plain) ∙ ap reverse (front_same (reverse xs) (all_reversed xs plain)) ∙ reverse-reverse xs

-- digits, and the number that they write
pub record AreDigits (n : ℕ) (text : List ℕ) : Type 0 where
  pub all : list_all is_ascii_digit text ≡ true
  pub value : digits_value 10 text ≡ n
  pub first : ℕ
  pub rest : List ℕ
  pub is : text ≡ first ∷ rest

digit_is : (n : ℕ) → n < 10 → is_ascii_digit (48 + n) ≡ true
digit_is n small = grind (arith, nat_tests)

digit_worth : (n : ℕ) → n < 10 → digit_value (48 + n) ≡ n
digit_worth n small = omega (arith, digit_value_digit (48 + n) (omega arith, omega arith))

value_push : (m : ℕ) (xs : List ℕ) (c : ℕ) → digits_value_after 10 m (xs ++ c ∷ []) ≡ digits_value_after 10 m xs * 10 + digit_value c
value_push m [] c = refl
value_push m (x ∷ xs) c = value_push (m * 10 + digit_value x) xs c

digits_one : (n : ℕ) → n < 10 → AreDigits n ((48 + n) ∷ [])
digits_one n small = grind (arith, and_from, is_ascii_digit, digit_is, digit_worth)

digits_more : (n : ℕ) (text : List ℕ) → 10 ≤ n → AreDigits (n / 10) text → AreDigits n (text ++ (48 + n % 10) ∷ [])
digits_more n text long front = grind (arith, all_joined, is_ascii_digit, and_from, digit_is, value_push, digit_worth)

pub decimal_are : (n : ℕ) → n < 10 ^ 64 → AreDigits n (decimal n)
decimal_are n small = decimal_by_steps_wide AreDigits digits_one digits_more n small

pub digits_are : (n : ℕ) → n < 10 ^ 64 → AreDigits n (digits_text n)
digits_are n small = subst (AreDigits n) (decimal-digits_text n small) (decimal_are n small)

-- a byte of a name is plain, and so is a digit
another : (c n : ℕ) → continues_name c ≡ true → continues_name n ≡ false → nat_eq c n ≡ false
another c n letter other = false_from_ne_true (nat_eq c n) (λ same. cc (sym letter ∙ ap continues_name (number_is c n same) ∙ other))

plain_letter : (c : ℕ) → continues_name c ≡ true → is_plain_byte c ≡ true
plain_letter c letter =
    rw (another c 9 letter refl, another c 10 letter refl, another c 13 letter refl, another c 32 letter refl, another c 34 letter refl, another c 44 letter refl, another c 239 letter refl) refl

pub plain_letters : (xs : List ℕ) → list_all continues_name xs ≡ true → list_all is_plain_byte xs ≡ true
plain_letters [] letters = refl
plain_letters (c ∷ xs) letters =
    let (one, rest) = both (continues_name c) (list_all continues_name xs) letters in
    and_from (is_plain_byte c) (list_all is_plain_byte xs) (plain_letter c one) (plain_letters xs rest)

digit_continues : (c : ℕ) → is_ascii_digit c ≡ true → continues_name c ≡ true
digit_continues c digit = grind (arith, nat_tests)

pub plain_digits : (xs : List ℕ) → list_all is_ascii_digit xs ≡ true → list_all is_plain_byte xs ≡ true
plain_digits [] digits = refl
plain_digits (c ∷ xs) digits =
    let (one, rest) = both (is_ascii_digit c) (list_all is_ascii_digit xs) digits in
    and_from (is_plain_byte c) (list_all is_plain_byte xs) (plain_letter c (digit_continues c one)) (plain_digits xs rest)

pub plain_some : (c : ℕ) (xs text : List ℕ) → text ≡ c ∷ xs → list_all is_plain_byte text ≡ true → is_plain_text text ≡ true
plain_some c xs text is plain = ap is_plain_text is ∙ ap (list_all is_plain_byte) (sym is) ∙ plain

pub digits_read : (n : ℕ) (text : List ℕ) → AreDigits n text → digits_number text ≡ Some n
digits_read n text digits = grind (arith, digits_value)

no_sign : (c : ℕ) → is_ascii_digit c ≡ true → (nat_eq c 43 ≡ false) × (nat_eq c 45 ≡ false)
no_sign c digit = (grind (arith, nat_tests), grind (arith, nat_tests))

number_digits : (c : ℕ) (xs : List ℕ) → is_ascii_digit c ≡ true → number_behind_sign (c ∷ xs) ≡ option_map pos (digits_number (c ∷ xs))
number_digits c xs digit = let (plus, minus) = no_sign c digit in rw (plus, minus) refl

-- what the text of a number is
pub record IsNumberText (z : ℤ) (text : List ℕ) : Type 0 where
  pub plain : list_all is_plain_byte text ≡ true
  pub some : is_plain_text text ≡ true
  pub number : number_behind_sign text ≡ Some z

-- digits, and digits behind a minus
pub digits_write : (n : ℕ) (text : List ℕ) → AreDigits n text → IsNumberText (pos n) text
digits_write n text digits = grind (arith, plain_digits, both, is_ascii_digit, list_all, plain_some, number_digits, option_map, digits_read)

pub minus_writes : (n : ℕ) (text : List ℕ) → AreDigits n text → IsNumberText (neg_ℤ (pos n)) (45 ∷ text)
minus_writes n text digits = grind (arith, plain_digits, option_map, neg_ℤ, digits_read)
