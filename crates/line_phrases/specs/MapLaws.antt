-- Mappings, and the widths of chosen leaves in them, are read by first tokens.
use Rattle.std.specs.Prelude.{◌≡◌, ◌≤◌}
use Rattle.line_phrases.specs.Imports.{ℕ, zero, suc, false, List, Option, Some, None, codes, refl, inr, arith, Grammar, Is, item, nothing, Fine, Quiet, anyway, firsts_any, Under, equal, empty, behind, either, fewer, alike, wider, Wider, joined_wider, is_same, is_sign, map_word, type_of, integer_type_of, token_order, part, braced_widths, field_width, field_widths, inside_aos, inside_aosoa, inside_bits, inside_form, inside_soa, form_or_name, mapping, mapping_within, joined, Order, Row, Sign, OpenBrace, OpenParen, Truth, U8, FieldWidth, MapTerm, Named, MapWord, Token, Word, Version}
use Rattle.places.specs.declared.forms.AosForm.TheVariants as aos
use Rattle.places.specs.declared.forms.SoaForm.TheVariants as soa
use Rattle.line_grammar.specs.declared.line.MapWord.TheVariants as form
use Rattle.line_phrases.specs.BasicsLaws.{count_fine, exact_sign, name_fine}
use Rattle.line_phrases.specs.ListLaws.{listed_fine, listed_quiet}
use Rattle.line_phrases.specs.PathsLaws.{path_fine, path_quiet}

field_width_fine : Fine is_same field_width
unfolding field_width part
field_width_fine = search (exact_sign, path_fine, path_quiet, count_fine) depth 12

field_widths_fine : (version : Version) → Fine is_same (field_widths version)
unfolding field_widths braced_widths field_width
field_widths_fine version = search (exact_sign, field_width_fine, listed_fine field_width, listed_quiet field_width) depth 12

field_widths_quiet : (version : Version) (t : Token) → is_sign OpenBrace t ≡ false → Quiet is_same (field_widths version) t
unfolding field_widths braced_widths
field_widths_quiet version t e = search depth 12

pub type_fine : Fine is_same (item type_of)
type_fine = (Word (codes "bool"), Truth, refl)

integer_type_fine : Fine is_same (item integer_type_of)
integer_type_fine = (Word (codes "u8"), U8, refl)

order_fine : Fine is_same (item token_order)
order_fine = (Word (codes "row"), Row, refl)

bits_fine : (version : Version) (value : ℕ → List FieldWidth → Order → MapTerm) → Fine is_same (inside_bits version value)
unfolding inside_bits
bits_fine version value = search (count_fine, exact_sign, order_fine, field_widths_fine, field_widths_quiet, anyway, firsts_any) depth 12

-- what is read by first tokens, and goes on with no token but this sign
pub record GoesOn {A : Type 0} (sign : Sign) (one : Grammar Token A) : Type 0 where
  pub fine : Fine is_same one
  pub quiet : (t : Token) → is_sign sign t ≡ false → Quiet is_same one t

module _ (version : Version) (map : Grammar Token MapTerm) (f : GoesOn OpenParen map) where
  inside_fine : (word : MapWord) → Fine is_same (inside_form version map word)
  unfolding inside_form inside_aos inside_soa inside_aosoa part
  inside_fine form.Aos = ((Word (codes "packed"), aos.Packed, refl), search (exact_sign, order_fine) depth 12)
  inside_fine form.Soa = ((Word (codes "single"), soa.Single, refl), search (exact_sign, order_fine) depth 12)
  inside_fine form.BitAos = bits_fine version _
  inside_fine form.BitSoa = bits_fine version _
  inside_fine _ = search (exact_sign, type_fine, integer_type_fine, count_fine, path_fine, path_quiet, order_fine, f.fine, f.quiet) depth 20

  inside_quiet : (word : MapWord) (t : Token) → is_sign OpenParen t ≡ false → Quiet is_same (inside_form version map word) t
  unfolding inside_form inside_aos inside_soa inside_aosoa inside_bits
  inside_quiet form.Aos t e = search
  inside_quiet _ t e = search (f.quiet, anyway) depth 20

  form_or_name_fine : (word : List ℕ) (form : Option MapWord) → Fine is_same (form_or_name version map word form)
  unfolding form_or_name
  form_or_name_fine word None = tt
  form_or_name_fine word (Some form) = search (exact_sign, inside_fine, inside_quiet) depth 12

  form_or_name_quiet : (word : List ℕ) (form : Option MapWord) (t : Token) → is_sign OpenParen t ≡ false → Quiet is_same (form_or_name version map word form) t
  unfolding form_or_name
  form_or_name_quiet word None t e = tt
  form_or_name_quiet word (Some form) t e = search

within : (version : Version) (n : ℕ) → GoesOn OpenParen (mapping_within version n)
unfolding mapping_within
within version zero = record { fine = search name_fine; quiet = λ t e. search }
within version (suc n) = record {
  fine = (name_fine, λ word. (form_or_name_fine version (mapping_within version n) (within version n) word (map_word word), search (firsts_any)));
  quiet = λ t e word. (form_or_name_quiet version (mapping_within version n) (within version n) word (map_word word) t e, search (anyway));
}

-- deeper

abbrev Deeper : ℕ → Grammar Token MapTerm → Grammar Token MapTerm → Type 1
Deeper n one more = Under is_same MapTerm n one more

inside_under : (version : Version) {n : ℕ} {one more : Grammar Token MapTerm} → Deeper n one more → (word : MapWord) → Deeper n (inside_form version one word) (inside_form version more word)
unfolding inside_form
inside_under version u form.Split = joined equal (λ path. fewer (behind (joined u (λ first. fewer (behind (joined u (λ rest. equal)))))))
inside_under version u form.Byteswap = joined u (λ inner. equal)
inside_under version u form.Bytesplit = joined u (λ inner. equal)
inside_under version u form.Change = joined equal (λ from. fewer (behind (joined equal (λ to. fewer (behind (joined u (λ inner. equal)))))))
inside_under version u form.Count = joined u (λ inner. equal)
inside_under version u form.Heat = joined equal (λ granule. fewer (behind (joined u (λ inner. equal))))
inside_under version u other = equal

form_or_name_under : (version : Version) {n : ℕ} {one more : Grammar Token MapTerm} → Deeper n one more → (word : List ℕ) (form : Option MapWord)
    → Deeper (suc n) (form_or_name version one word form) (form_or_name version more word form)
unfolding form_or_name
form_or_name_under version u word None = equal
form_or_name_under version u word (Some form) = either (λ t. refl) (behind (joined (inside_under version u form) (λ map. equal))) equal

only_name : (version : Version) (map : Grammar Token MapTerm) (word : List ℕ) (form : Option MapWord) → Wider (Is (nothing (Named word))) (Is (form_or_name version map word form))
unfolding form_or_name
only_name version map word None xs v h = h
only_name version map word (Some form) xs v h = inr h

within_under : (version : Version) (n m : ℕ) → n ≤ m → Deeper n (mapping_within version n) (mapping_within version m)
unfolding mapping_within
within_under version zero zero le = equal
within_under version (suc n) zero le = absurd (omega arith)
within_under version zero (suc m) le = empty (joined_wider (λ xs v h. h) (λ word. only_name version (mapping_within version m) word (map_word word))) refl
within_under version (suc n) (suc m) le = joined equal (λ word. form_or_name_under version (within_under version n m (omega arith)) word (map_word word))

pub mapping_fine : (version : Version) → Fine is_same (mapping version)
unfolding mapping
mapping_fine version = ((λ n. (within version n).fine), (λ n m le. wider (within_under version n m le)), λ n m le. alike (within_under version n m le))

pub mapping_quiet : (version : Version) (t : Token) → is_sign OpenParen t ≡ false → Quiet is_same (mapping version) t
unfolding mapping
mapping_quiet version t e = λ n. (within version n).quiet t e
