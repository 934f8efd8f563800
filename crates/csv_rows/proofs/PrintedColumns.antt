-- In a header of names each leaf has the column of its own number.
use Rattle.csv_rows.proofs.Imports.{◌≡◌, ℕ, suc, ◌+◌, Bool, true, false, nat_eq, List, [], ◌∷◌, ◌++◌, length, Ok, refl, sym, ap, subst, ◌∙◌, arith, append_assoc, if◌then◌else◌, list_all, list_any, enumerate_from, range_with_len, pointwise, length_push, has_twice, both, same_text, text_self, columns_named, columns_of, or_parts}
use Rattle.csv_rows.proofs.PlainTexts.{is_plain_text}
use Rattle.csv_rows.proofs.PrintedBytes.{unspaced_same}
use Rattle.csv_rows.proofs.PrintedLines.{plain_part}

-- a name that is not another's is not the other way round
other_way : (a b : List ℕ) (test : Bool) → pointwise nat_eq b a ≡ test → pointwise nat_eq a b ≡ false → test ≡ false
other_way a b true is other = cc (sym (text_self a) ∙ ap (pointwise nat_eq a) (sym (same_text b a is)) ∙ other)
other_way a b false is other = refl

-- one field of the header, which is the name or not
field_named : (name field : List ℕ) (n : ℕ) (fields : List (List ℕ)) (test : Bool) → is_plain_text field ≡ true → pointwise nat_eq field name ≡ test
    → columns_named name (enumerate_from n (field ∷ fields)) ≡ (if test then n ∷ columns_named name (enumerate_from (n + 1) fields) else columns_named name (enumerate_from (n + 1) fields))
field_named name field n fields test plain is = grind (arith, nat_eq, enumerate_from, unspaced_same, plain_part)

-- no field behind is the name
none_behind : (name : List ℕ) (n : ℕ) (fields : List (List ℕ)) → list_all is_plain_text fields ≡ true → list_any (pointwise nat_eq name) fields ≡ false → columns_named name (enumerate_from n fields) ≡ []
none_behind name n [] plain other = refl
none_behind name n (field ∷ fields) plain other =
    let (one, rest) = both (is_plain_text field) (list_all is_plain_text fields) plain in
    let (here, more) = or_parts (pointwise nat_eq name field) (list_any (pointwise nat_eq name) fields) other in
    field_named name field n fields false one (other_way name field (pointwise nat_eq field name) refl here) ∙ none_behind name (n + 1) fields rest more

-- the fields before are other names, and then comes the name
pub one_named : (before : List (List ℕ)) (name : List ℕ) (behind : List (List ℕ)) (n : ℕ) → list_all is_plain_text (before ++ name ∷ behind) ≡ true → has_twice (before ++ name ∷ behind) ≡ false → columns_named name (enumerate_from n (before ++ name ∷ behind)) ≡ (n + length before) ∷ []
one_named [] name behind n plain once = grind (arith, both, list_all, or_parts, list_any, nat_eq, field_named, text_self, none_behind)
one_named (field ∷ before) name behind n plain once =
    let (one, rest) = both (is_plain_text field) (list_all is_plain_text (before ++ name ∷ behind)) plain in
    let (other, more) = or_parts (list_any (pointwise nat_eq field) (before ++ name ∷ behind)) (has_twice (before ++ name ∷ behind)) once in
    let next : n + 1 + length before ≡ n + suc (length before) = omega arith in
    field_named name field n (before ++ name ∷ behind) false one (not_among field name before behind other) ∙ one_named before name behind (n + 1) rest more ∙ ap (λ (m : ℕ). m ∷ []) next where
      not_among : (field name : List ℕ) (before behind : List (List ℕ)) → list_any (pointwise nat_eq field) (before ++ name ∷ behind) ≡ false → pointwise nat_eq field name ≡ false
      not_among field name [] behind other = (or_parts (pointwise nat_eq field name) (list_any (pointwise nat_eq field) behind) other).0
      not_among field name (x ∷ before) behind other = not_among field name before behind (or_parts (pointwise nat_eq field x) (list_any (pointwise nat_eq field) (before ++ name ∷ behind)) other).1

-- the columns of names that are the header
pub own_columns : (before names : List (List ℕ)) (leaf : ℕ) → leaf ≡ length before → list_all is_plain_text (before ++ names) ≡ true → has_twice (before ++ names) ≡ false → columns_of (before ++ names) leaf names ≡ Ok (range_with_len leaf (length names))
own_columns before [] leaf is plain once = refl
own_columns before (name ∷ names) leaf is plain once =
    let whole : (before ++ name ∷ []) ++ names ≡ before ++ name ∷ names = append_assoc before (name ∷ []) names in
    let place : 0 + length before ≡ leaf = omega arith in
    let size : leaf + 1 ≡ length (before ++ name ∷ []) = ap (λ (n : ℕ). n + 1) is ∙ sym (length_push before name) in
    let rest : columns_of (before ++ name ∷ names) (leaf + 1) names ≡ Ok (range_with_len (leaf + 1) (length names)) =
    subst (λ (header : List (List ℕ)). columns_of header (leaf + 1) names ≡ Ok (range_with_len (leaf + 1) (length names))) whole (own_columns (before ++ name ∷ []) names (leaf + 1) size (ap (list_all is_plain_text) whole ∙ plain) (ap has_twice whole ∙ once)) in
    grind (arith, one_named)
