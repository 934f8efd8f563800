-- The fields of a record are read by first tokens, and how their reading goes on.
use Rattle.line_phrases.specs.Imports.{Global, inl, ap, arith, Box, ℕ, zero, suc, true, false, List, [], map, Ok, Err, refl, Grammar, starts, Fine, Quiet, anyway, firsts_any, list_end, list_stepped, list_stop, Under, equal, empty, behind, either, repeats, fewer, alike, wider, joined_wider, is_same, is_sign, arrays, fields_of_list, read, later, listed, braced, dim, dims, field_within, fields, nested, typed, joined, OpenBracket, FieldValue, Tree, Fields, Array, End, Field, Token}
use Rattle.std.specs.Prelude.{◌≡◌, ◌≤◌, ◌∷◌, ◌++◌}
use Rattle.line_phrases.specs.Inner.Fields.{boxed_field}
use Rattle.line_phrases.specs.BasicsLaws.{count_fine, exact_sign, name_fine}
use Rattle.line_phrases.specs.ListLaws.{listed_fine, listed_quiet}
use Rattle.line_phrases.specs.MapLaws.{GoesOn, type_fine}

dims_fine : Fine is_same (dims [])
unfolding dims dim
dims_fine = search (exact_sign, count_fine) depth 12

dims_quiet : (t : Token) → is_sign OpenBracket t ≡ false → Quiet is_same (dims []) t
unfolding dims dim
dims_quiet t e = search depth 12

pub dims_stepped : (counts : List ℕ) (tokens : List Token) (next : ℕ) (rest : List Token) → starts (is_sign OpenBracket) tokens ≡ true → read dim tokens ≡ Ok (next, rest)
    → read (dims counts) tokens ≡ read (dims (counts ++ next ∷ [])) rest
unfolding dims dim
dims_stepped = list_stepped is_same dim refl

pub dims_stop : (counts : List ℕ) (tokens : List Token) (left : ℕ) → starts (is_sign OpenBracket) tokens ≡ true → read dim tokens ≡ Err left → read (dims counts) tokens ≡ Err left
unfolding dims dim
dims_stop = list_stop is_same dim refl

pub dims_end : (counts : List ℕ) (tokens : List Token) → starts (is_sign OpenBracket) tokens ≡ false → read (dims counts) tokens ≡ Ok (counts, tokens)
unfolding dims dim
dims_end = list_end is_same dim refl

pub ruleset dim_steps = (dims_stepped, dims_stop, dims_end)

typed_fine : (name : List ℕ) → Fine is_same (typed name)
unfolding typed
typed_fine name = search (exact_sign, type_fine, dims_fine, anyway, firsts_any) depth 12

typed_quiet : (name : List ℕ) (t : Token) → is_sign OpenBracket t ≡ false → Quiet is_same (typed name) t
unfolding typed
typed_quiet name t e = search (dims_quiet, anyway) depth 12

module _ (one : Grammar Token (List ℕ × Tree)) (f : GoesOn OpenBracket one) where
  braced_fine : Fine is_same (braced one)
  unfolding braced
  braced_fine = search (exact_sign, f.fine, f.quiet, listed_fine one, listed_quiet one) depth 12

  nested_fine : (name : List ℕ) → Fine is_same (nested (braced one) name)
  unfolding nested braced
  nested_fine name = search (braced_fine, dims_fine, anyway, firsts_any) depth 12

  nested_quiet : (name : List ℕ) (t : Token) → is_sign OpenBracket t ≡ false → Quiet is_same (nested (braced one) name) t
  unfolding nested braced
  nested_quiet name t e = search (dims_quiet, anyway) depth 12

fine_field : (n : ℕ) → GoesOn OpenBracket (field_within n)
unfolding field_within nested braced typed
fine_field zero = record { fine = search (name_fine, typed_fine, anyway, firsts_any) depth 12; quiet = λ t e. search (typed_quiet, anyway) depth 12 }
fine_field (suc n) = let f = fine_field n in record {
  fine = (name_fine, λ name. ((typed_fine name, nested_fine (field_within n) f name, refl, search), search (firsts_any)));
  quiet = λ t e name. ((typed_quiet name t e, nested_quiet (field_within n) f name t e, search), search (anyway));
}

-- deeper

abbrev Deeper : ℕ → Grammar Token (List ℕ × Tree) → Grammar Token (List ℕ × Tree) → Type 1
Deeper n one more = Under is_same (List ℕ × Tree) n one more

braced_under : {n : ℕ} {one more : Grammar Token (List ℕ × Tree)} → Deeper n one more → Under is_same Fields (suc n) (braced one) (braced more)
unfolding braced listed later
braced_under u = behind (joined (joined u (λ first. repeats (λ found t. refl) (λ found. joined (fewer (behind u)) (λ next. equal)))) (λ fields. equal))

field_under : (n m : ℕ) → n ≤ m → Deeper n (field_within n) (field_within m)
unfolding field_within nested
field_under zero zero le = equal
field_under zero (suc m) le = empty (joined_wider (λ xs v h. h) (λ name xs v h. inl h)) refl
field_under (suc n) zero le = absurd (omega arith)
field_under (suc n) (suc m) le = joined equal (λ name. either (λ t. refl) equal (joined (braced_under (field_under n m (omega arith))) (λ fields. equal)))

fields_under : (n m : ℕ) → n ≤ m → Under is_same Fields n (braced (field_within n)) (braced (field_within m))
fields_under n m le = fewer (braced_under (field_under n m le))

pub fields_fine : Fine is_same fields
unfolding fields
fields_fine = ((λ n. braced_fine (field_within n) (fine_field n)), (λ n m le. wider (fields_under n m le)), λ n m le. alike (fields_under n m le))

pub fields_quiet : (t : Token) → Quiet is_same fields t
unfolding fields braced
fields_quiet t = search (anyway) depth 12

-- the last count is the innermost array, and the last field has none behind it
pub arrays_last : (counts : List ℕ) (count : ℕ) (tree : Tree) → arrays (counts ++ count ∷ []) tree ≡ arrays counts (Array count tree)
arrays_last [] count tree = refl
arrays_last (first ∷ counts) count tree = ap (Array first) (arrays_last counts count tree)

abbrev pub onto : List (List ℕ × Tree) → Fields → Fields
onto [] rest = rest
onto (field ∷ fields) rest = Field field.0 field.1 (onto fields rest)

pub onto_end : (fields : List (List ℕ × Tree)) → onto fields End ≡ fields_of_list fields
onto_end [] = refl
onto_end (first ∷ fields) = ap (Field first.0 first.1) (onto_end fields)

-- the same of the code's fields
abbrev pub entries : List (Box FieldValue Global) → List (List ℕ × Tree)
entries fields = map boxed_field fields

pub onto_pop : (fields : List (Box FieldValue Global)) (field : Box FieldValue Global) (rest : Fields) → onto (entries (fields ++ field ∷ [])) rest
    ≡ onto (entries fields) (Field (boxed_field field).0 (boxed_field field).1 rest)
onto_pop [] field rest = refl
onto_pop (first ∷ fields) field rest = ap (Field (boxed_field first).0 (boxed_field first).1) (onto_pop fields field rest)

pub onto_all : (fields : List (Box FieldValue Global)) → onto (entries fields) End ≡ fields_of_list (entries fields)
onto_all fields = onto_end (entries fields)

pub ruleset fields_last = (onto_pop, onto_all)
