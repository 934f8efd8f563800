-- The fields of a line, one after another.
use Rattle.csv_rows.proofs.Imports.{◌≡◌, ℕ, zero, suc, ◌+◌, ◌-◌, ◌<◌, ◌≤◌, List, [], ◌∷◌, ◌++◌, length, take, drop, get_or, Some, sym, ap, ◌∙◌, ⊎_elim, arith, slice_get, slice_split, cases_lt, take-append-drop, drop-drop, drop_more, take_all, length-drop, slice_split_none, slice_split_at, is_comma, IsFirstField, IsField}

-- the first field, and those behind its comma
field_split : (xs : List ℕ) (n : ℕ) → IsFirstField xs n → n < length xs → slice_split is_comma xs ≡ take n xs ∷ slice_split is_comma (drop (n + 1) xs)
field_split xs n first small =
    ap (slice_split is_comma) (sym (take-append-drop n xs) ∙ ap (λ (ys : List ℕ). take n xs ++ ys) (drop_more xs n 0 small))
    ∙ slice_split_at is_comma (take n xs) (get_or xs n 0) (drop (n + 1) xs) first.inside (first.ended small)

field_last : (xs : List ℕ) (n : ℕ) → IsFirstField xs n → length xs ≤ n → slice_split is_comma xs ≡ take n xs ∷ []
field_last xs n first over = ap (slice_split is_comma) (sym (take_all n xs over)) ∙ slice_split_none is_comma (take n xs) first.inside

field_first : (xs : List ℕ) (n : ℕ) → IsFirstField xs n → (others : List (List ℕ)) × (slice_split is_comma xs ≡ take n xs ∷ others)
field_first xs n first = ⊎_elim
    (λ (small : n < length xs). (slice_split is_comma (drop (n + 1) xs), field_split xs n first small))
    (λ (over : length xs ≤ n). ([], field_last xs n first over))
    (cases_lt n (length xs))

first_left : (xs : List (List ℕ)) (i : ℕ) (x : List ℕ) (others : List (List ℕ)) → drop i xs ≡ x ∷ others → slice_get xs i ≡ Some x
first_left [] zero x others is = absurd (cc is)
first_left [] (suc i) x others is = absurd (cc is)
first_left (y ∷ xs) zero x others is = let same : y ≡ x = cc is in ap Some same
first_left (y ∷ xs) (suc i) x others is = first_left xs i x others is

-- the field of a column, and the next one
pub field_found : (line : List ℕ) (column start count : ℕ) → IsField line column start → IsFirstField (drop start line) count → slice_get (slice_split is_comma line) column ≡ Some (take count (drop start line))
field_found line column start count at first =
    let (others, parts) = field_first (drop start line) count first in
    first_left (slice_split is_comma line) column (take count (drop start line)) others (at.behind ∙ parts)

pub field_behind : (line : List ℕ) (column start count : ℕ) → IsField line column start → IsFirstField (drop start line) count → count < length (drop start line) → IsField line (column + 1) (start + (count + 1))
field_behind line column start count at first small =
    let size : length (drop start line) ≡ length line - start = length-drop start line in
    let begun : start ≤ length line = at.within in
    let low : column ≤ start = at.low in
    record {
      within = omega arith;
      low = omega arith;
      behind = sym (drop-drop 1 column (slice_split is_comma line)) ∙ ap (drop 1) (at.behind ∙ field_split (drop start line) count first small)
          ∙ ap (slice_split is_comma) (drop-drop (count + 1) start line);
    }

pub fields_end : (line : List ℕ) (column start count : ℕ) → IsField line column start → IsFirstField (drop start line) count → length (drop start line) ≤ count → length (slice_split is_comma line) ≤ column + 1
fields_end line column start count at first over =
    let one : length (drop column (slice_split is_comma line)) ≡ 1 = ap length (at.behind ∙ field_last (drop start line) count first over) in
    omega (arith, length-drop column (slice_split is_comma line), one)
