-- What parsing a word tells of the number that it names.
use Rattle.layout_cli.proofs.Imports.{◌≡◌, ℕ, Bool, true, false, nat_le, List, Option, Some, None, Result, bytes_eq, refl, sym, ap, ◌∙◌, arith, IfSome, result_unwrap_or, ParsesUnsigned, AllDigits, digits_value, nat_tests, bytes_eq-Decides, numerals_by_value, tells_digits, parse-decimal, digits_value-decimal, digits_text, decimal-digits_text, is_number_word, generated_rows, IsNumberWord, ◌&&◌, if◌then◌else◌}

tested : (a b c : Bool) → ((a && b) && c) ≡ true → (a ≡ true) × (b ≡ true) × (c ≡ true)
tested true true true is = (refl, refl, refl)
tested a b c is = absurd (cc)

-- the test is the relation
pub word_is : (word : List ℕ) (n : ℕ) → is_number_word word n ≡ true → IsNumberWord word n
word_is word n is =
    let parts = tested (nat_le 1 n) (nat_le n 65536) (bytes_eq word (digits_text n)) is in
    record {
      some = grind (arith, nat_tests, parts.0);
      small = grind (arith, nat_tests, parts.1);
      text = (bytes_eq-Decides word (digits_text n)).0 parts.2;
    }

pub word_passes : (word : List ℕ) (n : ℕ) → IsNumberWord word n → is_number_word word n ≡ true
word_passes word n is =
    let some : nat_le 1 n ≡ true = grind (arith, nat_tests, is.some) in
    let small : nat_le n 65536 ≡ true = grind (arith, nat_tests, is.small) in
    let text : bytes_eq word (digits_text n) ≡ true = (bytes_eq-Decides word (digits_text n)).1 is.text in
    rw (some, small, text) refl

-- the number that a word names is the value of its digits
value_is : (word : List ℕ) (n : ℕ) → IsNumberWord word n → digits_value 10 word ≡ n
value_is word n is =
    let small = is.small in
    ap (digits_value 10) (is.text ∙ sym (decimal-digits_text n (omega arith))) ∙ digits_value-decimal (numerals_by_value (AllDigits 10) tells_digits) n (omega arith)

pub number_is : (word : List ℕ) (n : ℕ) → IsNumberWord word n → generated_rows word ≡ Some n
unfolding generated_rows
number_is word n is = rw (value_is word n is, word_passes word n is) refl

pub number_named : (word : List ℕ) → IfSome (generated_rows word) (IsNumberWord word)
unfolding generated_rows
number_named word = of_test (is_number_word word (digits_value 10 word)) (word_is word (digits_value 10 word)) where
  of_test : {n : ℕ} (test : Bool) → (test ≡ true → IsNumberWord word n) → IfSome (if test then Some n else None) (IsNumberWord word)
  of_test true named = named refl
  of_test false named = tt

-- and what the word is parsed as
parsed : {E : Type 0} (word : List ℕ) (read : Result ℕ E) (n : ℕ) → ParsesUnsigned 32 10 word read → IsNumberWord word n → result_unwrap_or read 0 ≡ n
parsed word read n parses is =
    let small = is.small in
    ap (λ r. result_unwrap_or r 0) (parse-decimal 32 n word read (omega arith) (omega arith) (is.text ∙ sym (decimal-digits_text n (omega arith))) parses)

-- a word that is not the text of what it is parsed as names no number
pub number_none : {E : Type 0} (word : List ℕ) (read : Result ℕ E) → ParsesUnsigned 32 10 word read → is_number_word word (result_unwrap_or read 0) ≡ false → generated_rows word ≡ None
number_none word read parses fails = of_number (generated_rows word) (number_named word) where
  of_number : (number : Option ℕ) → IfSome number (IsNumberWord word) → number ≡ None
  of_number None named = refl
  of_number (Some n) named =
      let passes : is_number_word word (result_unwrap_or read 0) ≡ true = rw (parsed word read n parses named) (word_passes word n named) in
      let clash : false ≡ true = sym fails ∙ passes in
      absurd (cc)
