-- What stands at the front of a text, as a relation, is what the function `standing` gives, and nothing else is.
use Rattle.std.specs.Prelude.{◌≡◌, ℕ, ◌^◌, ◌<◌, ◌≤◌, true, false, ◌&&◌, List, ◌∷◌, length, take, Option, Some, None, IsTrue, refl, nat_eq, nat_le, nat_lt, ℤ}
use Rattle.record_dim.specs.Std.{inl, inr, sym, ◌∙◌, ⊎_elim, arith, is_ascii_digit, prefix_len, digits_value, cond_both, true≢false, and_parts, and_cases, cases_Bool, lt-ltb, le-ltb, le-leb, lt-leb, leb-true, leb-false, ltb-true, ltb-false, ne_eqb, or_parts, not-true, nat_tests}
use Rattle.std.specs.Option.{option_map}
use Rattle.line_tokens.specs.Bytes.{is_letter, is_word_byte, is_hash, is_quote, is_other}
use Rattle.line_tokens.specs.Signs.{spelling, opens}
use Rattle.line_tokens.specs.Tokens.{StartsWith, IsWord, IsDigits, IsString, IsToken, IsBad, IsLongWord, IsGreatNumber, IsLoneQuote}
use Rattle.line_tokens.specs.Next.{sign_at, with_room, word_at, number_at, string_at, token_at, placed, standing}
use Rattle.line_tokens.specs.declared.sign.Sign.{Sign}
use Rattle.line_tokens.specs.declared.token.Next.TheVariants.{End}
use Rattle.line_tokens.specs.declared.token.TokenKind.{TokenKind}
use Rattle.line_tokens.specs.declared.token.TokenKind.TheVariants.{Word, Number, Text, Sign as SignKind}
use Rattle.line_tokens.specs.SignsLaws.{SignTells, sign_found, sign_tells, sign_first}
use Rattle.line_tokens.specs.StringsLaws.{string_found, string_or_none}

-- the classes of first bytes are apart

letter_apart : (b : ℕ) → is_letter b ≡ true → (is_ascii_digit b ≡ false) × (is_hash b ≡ false) × (is_quote b ≡ false)
letter_apart b h = (grind (arith, nat_tests), grind (arith, nat_tests), grind (arith, nat_tests))

digit_apart : (b : ℕ) → is_ascii_digit b ≡ true → (is_letter b ≡ false) × (is_hash b ≡ false) × (is_quote b ≡ false)
digit_apart b h = (grind (arith, nat_tests), grind (arith, nat_tests), grind (arith, nat_tests))

quote_apart : (b : ℕ) → is_quote b ≡ true → (is_letter b ≡ false) × (is_ascii_digit b ≡ false) × (is_hash b ≡ false)
quote_apart b h = (grind (arith, nat_tests), grind (arith, nat_tests), grind (arith, nat_tests))

pub record IsApart (b : ℕ) : Type 0 where
  pub letter : is_letter b ≡ false
  pub digit : is_ascii_digit b ≡ false
  pub hash : is_hash b ≡ false
  pub quote : is_quote b ≡ false

other_apart : (b : ℕ) → is_other b ≡ true → IsApart b
other_apart b h = grind (arith, or_parts, is_ascii_digit, not-true)

other_from : (b : ℕ) → is_letter b ≡ false → is_ascii_digit b ≡ false → is_hash b ≡ false → is_quote b ≡ false → is_other b ≡ true
other_from b l d h q = rw (l, d, h, q)

-- which form is read, by the first byte

full : (b : ℕ) (after : List ℕ) → nat_eq (length (b ∷ after)) 0 ≡ false
full b after = ne_eqb (length (b ∷ after)) 0 (λ e. omega arith)

pub standing_hash : (from b : ℕ) (after : List ℕ) (brackets : ℕ) → is_hash b ≡ true → standing from (b ∷ after) brackets ≡ End
standing_hash from b after brackets h = rw (full b after, h)

pub standing_token : (from b : ℕ) (after : List ℕ) (brackets : ℕ) → is_hash b ≡ false → standing from (b ∷ after) brackets ≡ placed from (token_at (b ∷ after) brackets)
standing_token from b after brackets h = rw (full b after, h)

at_letter : (b : ℕ) (after : List ℕ) (brackets : ℕ) → is_letter b ≡ true → token_at (b ∷ after) brackets ≡ word_at (b ∷ after)
at_letter b after brackets h = rw h

at_digit : (b : ℕ) (after : List ℕ) (brackets : ℕ) → is_ascii_digit b ≡ true → token_at (b ∷ after) brackets ≡ number_at (b ∷ after)
at_digit b after brackets h = let apart = digit_apart b h in rw (apart.0, h)

at_quote : (b : ℕ) (after : List ℕ) (brackets : ℕ) → is_quote b ≡ true → token_at (b ∷ after) brackets ≡ string_at (b ∷ after)
at_quote b after brackets h = let apart = quote_apart b h in rw (apart.0, apart.1, h)

at_other : (b : ℕ) (after : List ℕ) (brackets : ℕ) → is_other b ≡ true → token_at (b ∷ after) brackets ≡ with_room brackets (sign_at (b ∷ after))
at_other b after brackets h = let apart = other_apart b h in rw (apart.letter, apart.digit, apart.quote)

-- words and numbers

word_found : (n b : ℕ) (after : List ℕ) → IsWord n (b ∷ after) → word_at (b ∷ after) ≡ Some (n, Word)
word_found n b after h = rw (← h.1, le-leb n 32 h.2)

long_word_found : (b : ℕ) (after : List ℕ) → IsLongWord (b ∷ after) → word_at (b ∷ after) ≡ None
long_word_found b after h = rw (lt-leb (prefix_len is_word_byte (b ∷ after)) 32 h.1)

number_found : (n : ℕ) (value : ℤ) (b : ℕ) (after : List ℕ) → IsDigits n value (b ∷ after) → number_at (b ∷ after) ≡ Some (n, Number value)
number_found n value b after h = rw (← h.1, lt-ltb (digits_value 10 (take n (b ∷ after))) (2 ^ 127) h.2, h.3)

great_number_found : (b : ℕ) (after : List ℕ) → IsGreatNumber (b ∷ after) → number_at (b ∷ after) ≡ None
great_number_found b after h = rw (le-ltb (digits_value 10 (take (prefix_len is_ascii_digit (b ∷ after)) (b ∷ after))) (2 ^ 127) h.1)

-- what the token at the front, or none, says
abbrev pub TokenTells : List ℕ → ℕ → Option (ℕ × TokenKind) → Type 0
TokenTells rest brackets None = IsBad rest brackets
TokenTells rest brackets (Some token) = IsToken token.1 token.0 rest brackets

word_tells : (b : ℕ) (after : List ℕ) (brackets : ℕ) → is_letter b ≡ true → TokenTells (b ∷ after) brackets (word_at (b ∷ after))
word_tells b after brackets h = grind (arith, prefix_len, cond_both, nat_le, leb-true, leb-false)

number_tells : (b : ℕ) (after : List ℕ) (brackets : ℕ) → is_ascii_digit b ≡ true → TokenTells (b ∷ after) brackets (number_at (b ∷ after))
number_tells b after brackets h = grind (arith, prefix_len, is_ascii_digit, digits_value, cond_both, nat_lt, option_map, Number, ltb-true, ltb-false)

-- strings

string_tells : (b : ℕ) (after : List ℕ) (brackets : ℕ) → is_quote b ≡ true → TokenTells (b ∷ after) brackets (string_at (b ∷ after))
string_tells b after brackets h = elim (string_or_none b after h) [
  | inl none ↦ rw none (inr (inr (inr (inl (h, λ n string. absurd (let found = string_found n (b ∷ after) string in cc))))))
  | inr string ↦ rw (string_found string.0 (b ∷ after) string.1) string.1
]

lone_quote_found : (b : ℕ) (after : List ℕ) → IsLoneQuote (b ∷ after) → string_at (b ∷ after) ≡ None
lone_quote_found b after h = elim (string_or_none b after h.0) [
  | inl none ↦ none
  | inr string ↦ absurd (h.1 string.0 string.1)
]

string_first : (n b : ℕ) (after : List ℕ) → IsString n (b ∷ after) → is_quote b ≡ true
string_first n b after h = let e = h.1.1 in let is : b ≡ 34 = cc in rw is

-- signs

room_found : (n : ℕ) (sign : Sign) (brackets : ℕ) → (IsTrue (opens sign) → brackets < 64) → with_room brackets (Some (n, sign)) ≡ Some (n, SignKind sign)
room_found n sign brackets room = grind (arith, lt-leb)

no_room_found : (n : ℕ) (sign : Sign) (brackets : ℕ) → IsTrue (opens sign) → 64 ≤ brackets → with_room brackets (Some (n, sign)) ≡ None
no_room_found n sign brackets open_ full_ = rw (open_, le-leb 64 brackets full_)

no_sign_found : (b : ℕ) (after : List ℕ) → ((sign : Sign) → ¬ StartsWith (spelling sign) (b ∷ after)) → sign_at (b ∷ after) ≡ None
no_sign_found b after h = elim (sign_at (b ∷ after)) as (λ o. SignTells (b ∷ after) o → o ≡ None) [
  | None ↦ λ _. refl
  | Some sign ↦ λ some. absurd (h sign.1 some.0)
] (sign_tells b after)

sign_kind_tells : (b : ℕ) (after : List ℕ) (brackets : ℕ) → is_other b ≡ true → TokenTells (b ∷ after) brackets (with_room brackets (sign_at (b ∷ after)))
sign_kind_tells b after brackets h = elim (sign_at (b ∷ after)) as (λ o. SignTells (b ∷ after) o → TokenTells (b ∷ after) brackets (with_room brackets o)) [
  | None ↦ λ none. inl (h, none)
  | Some sign ↦ λ some. cond_both (opens sign.1 && nat_le 64 brackets) None (Some (sign.0, SignKind sign.1)) (TokenTells (b ∷ after) brackets)
      (λ e. let both = and_parts (opens sign.1) (nat_le 64 brackets) e in
      inr (inr (inr (inr (sign.0, sign.1, some, both.0, leb-true 64 brackets both.1)))))
      (λ e. (
        some,
        λ opened. ⊎_elim
            (λ o. absurd (true≢false (sym opened ∙ o)))
            (λ o. leb-false 64 brackets o)
            (and_cases (opens sign.1) (nat_le 64 brackets) e),
      ))
] (sign_tells b after)

-- the token at the front

pub token_tells : (b : ℕ) (after : List ℕ) (brackets : ℕ) → is_hash b ≡ false → TokenTells (b ∷ after) brackets (token_at (b ∷ after) brackets)
token_tells b after brackets hash = ⊎_elim
    (λ l. rw (at_letter b after brackets l) (word_tells b after brackets l))
    (λ l. ⊎_elim
    (λ d. rw (at_digit b after brackets d) (number_tells b after brackets d))
    (λ d. ⊎_elim
    (λ q. rw (at_quote b after brackets q) (string_tells b after brackets q))
    (λ q. let other = other_from b l d hash q in rw (at_other b after brackets other) (sign_kind_tells b after brackets other))
    (cases_Bool (is_quote b)))
    (cases_Bool (is_ascii_digit b)))
    (cases_Bool (is_letter b))

pub token_found : (kind : TokenKind) (n b : ℕ) (after : List ℕ) (brackets : ℕ) → IsToken kind n (b ∷ after) brackets →
    (is_hash b ≡ false) × (token_at (b ∷ after) brackets ≡ Some (n, kind))
token_found Word n b after brackets h = ((letter_apart b h.0).1, at_letter b after brackets h.0 ∙ word_found n b after h)
token_found (Number value) n b after brackets h = ((digit_apart b h.0).1, at_digit b after brackets h.0 ∙ number_found n value b after h)
token_found Text n b after brackets h =
    let quote : is_quote b ≡ true = string_first n b after h in
    ((quote_apart b quote).2, at_quote b after brackets quote ∙ string_found n (b ∷ after) h)
token_found (SignKind sign) n b after brackets h =
    let other = sign_first sign b after h.0.0 in
    ((other_apart b other).hash, at_other b after brackets other ∙ rw (sign_found n sign (b ∷ after) h.0) (room_found n sign brackets h.1))

pub bad_found : (b : ℕ) (after : List ℕ) (brackets : ℕ) → IsBad (b ∷ after) brackets → (is_hash b ≡ false) × (token_at (b ∷ after) brackets ≡ None)
bad_found b after brackets h = elim h [
  | inl stray ↦ ((other_apart b stray.0).hash, at_other b after brackets stray.0 ∙ rw (no_sign_found b after stray.1))
  | inr h ↦ elim h [
    | inl word ↦ ((letter_apart b word.0).1, at_letter b after brackets word.0 ∙ long_word_found b after word)
    | inr h ↦ elim h [
      | inl number ↦ ((digit_apart b number.0).1, at_digit b after brackets number.0 ∙ great_number_found b after number)
      | inr h ↦ elim h [
        | inl quote ↦ ((quote_apart b quote.0).2, at_quote b after brackets quote.0 ∙ lone_quote_found b after quote)
        | inr h ↦
            let other = sign_first h.1 b after h.2.0 in
            ((other_apart b other).hash, at_other b after brackets other ∙ rw (sign_found h.0 h.1 (b ∷ after) h.2) (no_room_found h.0 h.1 brackets h.3 h.4))
      ]
    ]
  ]
]
