-- The mapping expressions that lines say: their parts, and the tokens of such an expression.
use Rattle.saved_runs.proofs.Imports.{◌≡◌, ℕ, zero, suc, ◌+◌, ◌≤◌, max, List, [], ◌∷◌, Option, Some, None, refl, sym, subst, arith, le-max_left, le-max_right, Grammar, Is, item, behind_token, joined, nothing, Asked, as_asked, OpenBrace, CloseBrace, OpenParen, CloseParen, Comma, Arrow, Order, FieldWidth, MapTerm, Aos, Soa, Aosoa, BitAos, BitSoa, Split, Byteswap, Bytesplit, Change, Counted, Heated, Named, Token, Word, Sign, Two, MapWord, name_of, count_of, type_of, integer_type_of, token_order, aos_form_of, soa_form_of, map_word, form_word, name, count, part, parts, path, field_width, field_widths, braced_widths, inside_aos, inside_soa, inside_aosoa, inside_bits, inside_form, form_or_name, mapping_phrase, mapping_within, IsSpelled, fits_flat, one_fits, word_spelled}
use Rattle.record_dim.specs.declared.path.PathStep.TheVariants as step
use Rattle.line_grammar.specs.declared.line.MapWord.TheVariants as form
use Rattle.saved_runs.proofs.Told.{Told, told_more, told_nothing, told_item, told_behind, told_joined, told_first, told_second, told_inside, Keeps, keeps_nothing, keeps_item, keeps_behind, keeps_joined, keeps_either, keeps_which, keeps_each, keeps_inside, keeps_listed}
use Rattle.saved_runs.proofs.Says.{Stand, item_told, kept_told, stand_splits}

-- ---- paths and widths open few brackets

name_keeps : (k : ℕ) → Keeps k name
name_keeps k = keeps_item k name_of (λ sign. refl)

count_keeps : (k : ℕ) → Keeps k count
count_keeps k = keeps_item k count_of (λ sign. refl)

part_keeps : Keeps 1 part
unfolding part
part_keeps = grind (arith, keeps_either, keeps_behind, fits_flat, keeps_joined, name_keeps, keeps_nothing, keeps_inside, count_keeps)

path_keeps : Keeps 1 path
unfolding path parts
path_keeps = keeps_joined 1 (name_keeps 1) (λ name. keeps_each 1 part_keeps (step.Name name ∷ []))

width_keeps : Keeps 1 field_width
unfolding field_width
width_keeps = grind (arith, keeps_joined, path_keeps, keeps_behind, fits_flat, count_keeps, keeps_nothing)

widths_keep : Keeps 2 (field_widths Two)
unfolding field_widths braced_widths
widths_keep = keeps_which 2 (keeps_either 2 (keeps_inside 1 OpenBrace CloseBrace (λ fields. fields) refl refl refl (keeps_listed 1 width_keeps)) (keeps_nothing 2 []))

-- ---- the parts of a mapping expression

-- each part is one that spelled tokens say
abbrev pub HasTokens : MapTerm → Type 0
HasTokens (Aos form order) = Told 0 (item aos_form_of) form × Told 0 (item token_order) order
HasTokens (Soa form order) = Told 0 (item soa_form_of) form × Told 0 (item token_order) order
HasTokens (Aosoa lanes order) = Told 0 count lanes × Told 0 (item token_order) order
HasTokens (BitAos width fields order) = Told 0 count width × (Told 2 (field_widths Two) fields × Told 0 (item token_order) order)
HasTokens (BitSoa width fields order) = Told 0 count width × (Told 2 (field_widths Two) fields × Told 0 (item token_order) order)
HasTokens (Split along first rest) = Told 1 path along × (HasTokens first × HasTokens rest)
HasTokens (Byteswap inner) = HasTokens inner
HasTokens (Bytesplit inner) = HasTokens inner
HasTokens (Change from to inner) = Told 0 (item type_of) from × (Told 0 (item integer_type_of) to × HasTokens inner)
HasTokens (Counted inner) = HasTokens inner
HasTokens (Heated granule inner) = Told 0 count granule × HasTokens inner
HasTokens (Named word) = Told 0 name word

-- so is each part of what a line says
module _ (inner : Grammar Token MapTerm) (inner_has : (xs : List Token) (v : MapTerm) → Is inner xs v → Stand xs → HasTokens v) where
  order_told : (xs : List Token) (order : Order) → Is (item token_order) xs order → Stand xs → Told 0 (item token_order) order
  order_told = item_told token_order (λ sign. refl)

  count_told : (xs : List Token) (n : ℕ) → Is count xs n → Stand xs → Told 0 count n
  count_told = item_told count_of (λ sign. refl)

  bits_have : (value : ℕ → List FieldWidth → Order → MapTerm)
      → ((width : ℕ) (fields : List FieldWidth) (order : Order) → Told 0 count width × (Told 2 (field_widths Two) fields × Told 0 (item token_order) order) → HasTokens (value width fields order))
      → Asked Stand (inside_bits Two value) (λ xs v. HasTokens v)
  unfolding inside_bits
  bits_have value has = λ width xs i s fields ys j t order zs k u. has width fields order (count_told xs width i s, (kept_told 2 widths_keep ys fields j t, order_told zs order k u))

  form_has : (form : MapWord) → Asked Stand (inside_form Two inner form) (λ xs v. HasTokens v)
  unfolding inside_form inside_aos inside_soa inside_aosoa
  form_has form.Aos = λ f xs i s order ys j t. (item_told aos_form_of (λ sign. refl) xs f i s, order_told ys order j t)
  form_has form.Soa = λ f xs i s order ys j t. (item_told soa_form_of (λ sign. refl) xs f i s, order_told ys order j t)
  form_has form.Aosoa = λ lanes xs i s order ys j t. (count_told xs lanes i s, order_told ys order j t)
  form_has form.BitAos = bits_have BitAos (λ width fields order told. told)
  form_has form.BitSoa = bits_have BitSoa (λ width fields order told. told)
  form_has form.Split = λ path xs i s first ys j t rest zs k u. (kept_told 1 path_keeps xs path i s, (inner_has ys first j t, inner_has zs rest k u))
  form_has form.Change = λ from xs i s to ys j t map zs k u. (item_told type_of (λ sign. refl) xs from i s, (item_told integer_type_of (λ sign. refl) ys to j t, inner_has zs map k u))
  form_has form.Heat = λ granule xs i s map ys j t. (count_told xs granule i s, inner_has ys map j t)
  form_has _ = λ map xs i s. inner_has xs map i s

  form_or_name_has : (word : List ℕ) → Told 0 name word → (form : Option MapWord) → Asked Stand (form_or_name Two inner word form) (λ xs v. HasTokens v)
  unfolding form_or_name
  form_or_name_has word is None = is
  form_or_name_has word is (Some form) = ((λ map xs i s. as_asked stand_splits (inside_form Two inner form) (λ us v. HasTokens v) (form_has form) xs map i s), is)

within_has : (n : ℕ) (xs : List Token) (v : MapTerm) → Is (mapping_within Two n) xs v → Stand xs → HasTokens v
unfolding mapping_within
within_has zero = as_asked stand_splits (mapping_within Two zero) (λ us v. HasTokens v) (λ word xs i s. item_told name_of (λ sign. refl) xs word i s)
within_has (suc n) = as_asked stand_splits (mapping_within Two (suc n)) (λ us v. HasTokens v)
    (λ word xs i s. form_or_name_has (mapping_within Two n) (within_has n) word (item_told name_of (λ sign. refl) xs word i s) (map_word word))

pub mapping_has : (xs : List Token) (v : MapTerm) → Is (mapping_phrase Two) xs v → Stand xs → HasTokens v
unfolding mapping_phrase
mapping_has xs v is stands = within_has is.0 xs v is.1 stands

-- ---- the tokens of a mapping expression

-- the number of nodes on the longest way down
abbrev pub height : MapTerm → ℕ
height (Split along first rest) = max (height first) (height rest) + 1
height (Byteswap inner) = height inner + 1
height (Bytesplit inner) = height inner + 1
height (Change from to inner) = height inner + 1
height (Counted inner) = height inner + 1
height (Heated granule inner) = height inner + 1
height _ = 1

some_height : (term : MapTerm) → 1 ≤ height term
some_height (Split along first rest) = omega arith
some_height _ = omega arith

-- a word that begins a form is a name, and is spelled
record IsFormWord (form : MapWord) : Type 0 where
  name : name_of (Word (form_word form)) ≡ Some (form_word form)
  meant : map_word (form_word form) ≡ Some form
  spelled : IsSpelled (Word (form_word form))

form_words : (form : MapWord) → IsFormWord form
form_words form = grind (arith, word_spelled)

-- a form around what stands in its brackets
told_form : (n : ℕ) (form : MapWord) (term : MapTerm) → Told (n + 2) (inside_form Two (mapping_within Two n) form) term → Told (suc n + 2) (mapping_within Two (suc n)) term
unfolding mapping_within form_or_name
told_form n form term inside =
    let word = form_words form in
    let bracketed : Told (suc n + 2) (form_or_name Two (mapping_within Two n) (form_word form) (Some form)) term =
    told_first (suc n + 2) (told_more (n + 2 + 1) (suc n + 2) (omega arith) (told_inside (n + 2) OpenParen CloseParen refl refl refl inside)) in
    told_joined (suc n + 2) (told_item (suc n + 2) name_of (Word (form_word form)) (form_word form) word.name (one_fits (Word (form_word form)) refl word.spelled))
    (subst (λ (o : Option MapWord). Told (suc n + 2) (form_or_name Two (mapping_within Two n) (form_word form) o) term) (sym word.meant) bracketed)

-- a part behind a comma, and a part without brackets
comma : {A : Type 0} {one : Grammar Token A} {v : A} (k : ℕ) → Told k one v → Told k (behind_token (Sign Comma) one) v
comma k t = told_behind k (Sign Comma) (λ xs f. fits_flat k (Sign Comma) xs refl refl f) t

plain : {A : Type 0} {one : Grammar Token A} {v : A} (k : ℕ) → Told 0 one v → Told k one v
plain k t = told_more 0 k (omega arith) t

-- the last part, and two parts without brackets
told_last : {A : Type 0} {one : Grammar Token A} {v : A} (n : ℕ) (value : A → MapTerm) → Told (n + 2) one v → Told (n + 2) (joined one (λ w. nothing (value w))) (value v)
told_last {v = v} n value t = told_joined (n + 2) t (told_nothing (n + 2) (value v))

told_two : {A B : Type 0} {one : Grammar Token A} {other : Grammar Token B} {v : A} {w : B} (n : ℕ) (value : A → B → MapTerm) → Told 0 one v × Told 0 other w
    → Told (n + 2) (joined one (λ a. behind_token (Sign Comma) (joined other (λ b. nothing (value a b))))) (value v w)
told_two {v = v} n value h = told_joined (n + 2) (plain (n + 2) h.0) (comma (n + 2) (told_last n (value v) (plain (n + 2) h.1)))

told_bits : (n : ℕ) (value : ℕ → List FieldWidth → Order → MapTerm) (width : ℕ) (fields : List FieldWidth) (order : Order)
    → Told 0 count width × (Told 2 (field_widths Two) fields × Told 0 (item token_order) order) → Told (n + 2) (inside_bits Two value) (value width fields order)
unfolding inside_bits
told_bits n value width fields order h =
    told_joined (n + 2) (plain (n + 2) h.0)
    (told_joined (n + 2) (told_more 2 (n + 2) (omega arith) h.1.0) (comma (n + 2) (told_last n (value width fields) (plain (n + 2) h.1.1))))

told_name : (n k : ℕ) (name : List ℕ) (form : Option MapWord) → Told k (form_or_name Two (mapping_within Two n) name form) (Named name)
unfolding form_or_name
told_name n k name None = told_nothing k (Named name)
told_name n k name (Some form) = told_second k (told_nothing k (Named name))

-- an expression of such parts is one that tokens say
pub told_map : (n : ℕ) (term : MapTerm) → HasTokens term → height term ≤ n → Told (n + 2) (mapping_within Two n) term
unfolding mapping_within inside_form inside_aos inside_soa inside_aosoa
told_map zero term h low = absurd (omega (arith, some_height term, low))
told_map (suc n) (Aos f order) h low = told_form n form.Aos (Aos f order) (told_two n Aos h)
told_map (suc n) (Soa f order) h low = told_form n form.Soa (Soa f order) (told_two n Soa h)
told_map (suc n) (Aosoa lanes order) h low = told_form n form.Aosoa (Aosoa lanes order) (told_two n Aosoa h)
told_map (suc n) (BitAos width fields order) h low = told_form n form.BitAos (BitAos width fields order) (told_bits n BitAos width fields order h)
told_map (suc n) (BitSoa width fields order) h low = told_form n form.BitSoa (BitSoa width fields order) (told_bits n BitSoa width fields order h)
told_map (suc n) (Split along first rest) h low =
    let one = told_map n first h.1.0 (omega (arith, le-max_left (height first) (height rest), low)) in
    let two = told_map n rest h.1.1 (omega (arith, le-max_right (height first) (height rest), low)) in
    told_form n form.Split (Split along first rest)
    (told_joined (n + 2) (told_more 1 (n + 2) (omega arith) h.0) (comma (n + 2) (told_joined (n + 2) one (comma (n + 2) (told_last n (Split along first) two)))))
told_map (suc n) (Byteswap inner) h low = told_form n form.Byteswap (Byteswap inner) (told_last n Byteswap (told_map n inner h (omega (arith, low))))
told_map (suc n) (Bytesplit inner) h low = told_form n form.Bytesplit (Bytesplit inner) (told_last n Bytesplit (told_map n inner h (omega (arith, low))))
told_map (suc n) (Change from to inner) h low =
    told_form n form.Change (Change from to inner)
    (told_joined (n + 2) (plain (n + 2) h.0) (told_behind (n + 2) (Sign Arrow) (λ xs f. fits_flat (n + 2) (Sign Arrow) xs refl refl f)
    (told_joined (n + 2) (plain (n + 2) h.1.0) (comma (n + 2) (told_last n (Change from to) (told_map n inner h.1.1 (omega (arith, low))))))))
told_map (suc n) (Counted inner) h low = told_form n form.Count (Counted inner) (told_last n Counted (told_map n inner h (omega (arith, low))))
told_map (suc n) (Heated granule inner) h low =
    told_form n form.Heat (Heated granule inner) (told_joined (n + 2) (plain (n + 2) h.0) (comma (n + 2) (told_last n (Heated granule) (told_map n inner h.1 (omega (arith, low))))))
told_map (suc n) (Named name) h low = told_joined (suc n + 2) (plain (suc n + 2) h) (told_name n (suc n + 2) name (map_word name))
