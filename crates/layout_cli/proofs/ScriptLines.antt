-- The lines of the generated script are those that it is made of.
use Rattle.layout_cli.proofs.Imports.{◌≡◌, ℕ, ◌+◌, ◌-◌, ◌%◌, ◌^◌, ◌<◌, ◌≤◌, Bool, true, false, nat_lt, ◌==◌, List, [], ◌∷◌, ◌++◌, map, length, take, codes, flat_map, refl, ap, ◌∙◌, append_assoc, arith, if◌then◌else◌, list_all, slice_split, AllByRecursion, AllPass, decimal, nat_tests, decimal_by_steps_wide, list_all-append, slice_split_at, AllPass-from_list_all, strip_bom, digits_text, decimal-digits_text, is_line_end, without_cr, ended_lines, lines_in, with_line_end, generated_lines, script_text, slice_index_or}

-- no byte that could be a part of the end of a line
abbrev pub is_plain : List ℕ → Bool
is_plain line = list_all (nat_lt 13) line

abbrev pub IsPlain : List ℕ → Type 0
IsPlain [] = ⊥
IsPlain (first ∷ rest) = is_plain (first ∷ rest) ≡ true

plain_both : (front back : List ℕ) → is_plain front ≡ true → is_plain back ≡ true → is_plain (front ++ back) ≡ true
plain_both front back one two = list_all-append (nat_lt 13) front back ∙ rw (one, two) refl

plain_decimal : (n : ℕ) → n < 10 ^ 64 → is_plain (decimal n) ≡ true
plain_decimal = decimal_by_steps_wide (λ n text. is_plain text ≡ true) (λ n small. digit n)
    (λ n text long front. plain_both text ((48 + n % 10) ∷ []) front (digit (n % 10)))
  where
    digit : (n : ℕ) → is_plain ((48 + n) ∷ []) ≡ true
    digit n = let high : nat_lt 13 (48 + n) ≡ true = grind (arith, nat_tests) in rw high refl

-- a line with a number in it
pub plain_number : (front back : List ℕ) (n : ℕ) → n ≤ 65536 → is_plain front ≡ true → is_plain back ≡ true → is_plain (front ++ digits_text n ++ back) ≡ true
plain_number front back n small one two =
    let digits : is_plain (digits_text n) ≡ true = rw (← decimal-digits_text n (omega arith)) (plain_decimal n (omega arith)) in
    plain_both (front ++ digits_text n) back (plain_both front (digits_text n) one digits) two

-- a plain line is no end of a line, and has no CR at its end
no_end : (byte : ℕ) → nat_lt 13 byte ≡ true → is_line_end byte ≡ false
no_end byte high = grind (arith, nat_tests)

no_cr : (byte : ℕ) → nat_lt 13 byte ≡ true → (byte == 13) ≡ false
no_cr byte high = grind (arith, nat_tests)

line_ahead : (line rest : List ℕ) → IsPlain line → lines_in (line ++ 10 ∷ rest) ≡ line ∷ lines_in rest
line_ahead [] rest plain = absurd plain
line_ahead (first ∷ more) rest plain =
    let line = first ∷ more in
    let all : AllPass (nat_lt 13) line = AllPass-from_list_all (nat_lt 13) line plain in
    let split : slice_split is_line_end (line ++ 10 ∷ rest) ≡ line ∷ slice_split is_line_end rest =
    slice_split_at is_line_end line 10 rest (λ k d inside. no_end _ (all k d inside)) refl in
    let last : (slice_index_or line (length line - 1) 0 == 13) ≡ false = no_cr _ (all (length line - 1) 0 (omega arith)) in
    ap (λ parts. map without_cr (ended_lines parts)) split ∙ ap (λ (cr : Bool). (if cr then take (length line - 1) line else line) ∷ lines_in rest) last

lines_ended : (lines : List (List ℕ)) → AllByRecursion IsPlain lines → lines_in (flat_map with_line_end lines) ≡ lines
lines_ended [] plain = refl
lines_ended (line ∷ lines) plain =
    ap lines_in (append_assoc line (codes "\n") (flat_map with_line_end lines)) ∙ line_ahead line (flat_map with_line_end lines) plain.0
    ∙ ap (λ rest. line ∷ rest) (lines_ended lines plain.1)

-- the lines of the generated script
pub script_lines_are : (n : ℕ) → n ≤ 65536 → lines_in (strip_bom (script_text n)) ≡ generated_lines n
unfolding script_text strip_bom
script_lines_are n small = lines_ended (generated_lines n) (
  refl,
  (
    refl,
    (
      plain_number (codes "view B : P [") (codes "] as soa(multi, row)") n small refl refl,
      (
        plain_number (codes "view C : P [") (codes "] as aosoa(8, row)") n small refl refl,
        (
          plain_number (codes "view D : P [") (codes "] as bitaos(40, row)") n small refl refl,
          (
            plain_number (codes "view E : P [") (codes "] as split(pos, byteswap(soa(single, col)), bitsoa(34, row))") n small refl refl,
            (
              plain_number (codes "view F : P [") (codes "] as bytesplit(aos(aligned, morton))") n small refl refl,
              (refl, (refl, (refl, (refl, (refl, (refl, (refl, (refl, (refl, (refl, (refl, (refl, (refl, tt))))))))))))),
            ),
          ),
        ),
      ),
    ),
  ),
)
