-- Views of zeros, and the words of their extents.
use Rattle.blob_file.proofs.Imports.{◌≡◌, ℕ, false, List, [], ◌∷◌, length, None, Some, refl, sym, ap, ◌∙◌, arith, count_by, sum_by, list_any, sum_by-cons, Bad, ExtentWord, Fixed, Rows, indices, is_rows, bad_extents, HasRows, Fields, leaves, Term, zeros, StoreMode, Table, owners_of, leaf_count_of, no_tally, empty_table, header_by}

-- the table that a new view is
pub table_new : (seen : Table) (mode : StoreMode) (fields : Fields) (extents : List ℕ) (term : Term) → seen.mode ≡ mode → seen.fields ≡ fields → seen.extents ≡ extents → seen.mapping ≡ term
    → seen.rows ≡ zeros (length (indices extents)) (length (leaves fields)) → seen.tally ≡ no_tally (seen.mapping) (owners_of seen) (leaf_count_of seen)
    → seen ≡ empty_table (header_by fields extents mode term)
table_new seen mode fields extents term m f e t z n = grind (arith, leaves)

-- words of which none is open
pub none_open : (words : List ExtentWord) → list_any is_rows words ≡ false → count_by is_rows words ≡ 0
none_open [] none = refl
none_open (Fixed extent ∷ words) none = grind (arith, sum_by, sum_by-cons, (none_open words none))
none_open (Rows ∷ words) none = absurd (cc none)

pub no_open : (words : List ExtentWord) → list_any is_rows words ≡ false → HasRows words → ⊥
no_open words none some = omega (arith, none_open words none, some)

pub refused_extents : (shape words : List ExtentWord) (bad : Bad) → shape ≡ words → bad_extents shape None ≡ Some bad → bad_extents words None ≡ None → ⊥
refused_extents shape words bad same some none = let clash : Some bad ≡ None = sym some ∙ ap (λ (w : List ExtentWord). bad_extents w None) same ∙ none in absurd (cc)
