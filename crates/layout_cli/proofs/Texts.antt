-- Texts that grow at their end.
use Rattle.layout_cli.proofs.Imports.{◌≡◌, ℕ, suc, ◌+◌, ◌-◌, ◌<◌, ℤ, List, [], ◌∷◌, ◌++◌, codes, sym, ap, ◌∙◌, append_assoc, append-nil, arith, range_with_len, decimal_text, with_line_end, values_with_commas, row_text}
use Rattle.record_dim.specs.Std.{flat_map}

-- one piece more was put
pub more : (piece was now old : List ℕ) → now ≡ was ++ piece → was ≡ old → now ≡ old ++ piece
more piece was now old put is = put ∙ ap (λ (text : List ℕ). text ++ piece) is

-- a value and what stands behind it
pub value_more : (value : ℤ) (behind was now old : List ℕ) → now ≡ was ++ decimal_text value ++ behind → was ≡ old → now ≡ old ++ decimal_text value ++ behind
value_more value behind was now old put is = put ∙ ap (λ (text : List ℕ). text ++ decimal_text value ++ behind) is

-- the text with these pieces put at its end
abbrev pub grown : List ℕ → List (List ℕ) → List ℕ
grown text [] = text
grown text (piece ∷ pieces) = grown (text ++ piece) pieces

pub grown_is : (text : List ℕ) (pieces : List (List ℕ)) → grown text pieces ≡ text ++ flat_map (λ piece. piece) pieces
grown_is text [] = sym (append-nil text)
grown_is text (piece ∷ pieces) = grown_is (text ++ piece) pieces ∙ append_assoc text piece (flat_map (λ piece. piece) pieces)

-- the text with the values of a row put at its end, each with what stands behind it
abbrev pub grown_row : List ℕ → List ℤ → List ℕ
grown_row text [] = text
grown_row text (value ∷ []) = text ++ decimal_text value ++ codes "\n"
grown_row text (value ∷ values) = grown_row (text ++ decimal_text value ++ codes ",") values

pub grown_row_is : (text : List ℕ) (value : ℤ) (values : List ℤ) → grown_row text (value ∷ values) ≡ text ++ with_line_end (values_with_commas (value ∷ values))
grown_row_is text value [] = append_assoc text (decimal_text value) (codes "\n")
grown_row_is text value (next ∷ values) =
    let digits = decimal_text value in
    let more = with_line_end (values_with_commas (next ∷ values)) in
    grown_row_is (text ++ digits ++ codes ",") next values ∙ ap (λ (front : List ℕ). front ++ more) (append_assoc text digits (codes ","))
    ∙ append_assoc text (digits ++ codes ",") more ∙ ap (λ rest. text ++ rest) (sym (append_assoc (digits ++ codes ",") (values_with_commas (next ∷ values)) (codes "\n")))

-- a line that was put in parts
pub line_put : (text front middle back : List ℕ) → text ++ front ++ middle ++ back ++ codes "\n" ≡ text ++ with_line_end (front ++ middle ++ back)
line_put text front middle back =
    ap (λ (t : List ℕ). t ++ back ++ codes "\n") (append_assoc text front middle) ∙ ap (λ (t : List ℕ). t ++ codes "\n") (append_assoc text (front ++ middle) back)
    ∙ append_assoc text (front ++ middle ++ back) (codes "\n")

-- the rows from this one on
pub rows_from : (n row : ℕ) → row < n → flat_map row_text (range_with_len row (n - row)) ≡ row_text row ++ flat_map row_text (range_with_len (row + 1) (n - (row + 1)))
rows_from n row more =
    let one : n - row ≡ suc (n - (row + 1)) = omega arith in
    ap (λ count. flat_map row_text (range_with_len row count)) one

-- a row was put, and those behind it are still to come
pub row_put : (old new : List ℕ) (n row : ℕ) → row < n → new ≡ old ++ row_text row → new ++ flat_map row_text (range_with_len (row + 1) (n - (row + 1))) ≡ old ++ flat_map row_text (range_with_len row (n - row))
row_put old new n row more is =
    let later = flat_map row_text (range_with_len (row + 1) (n - (row + 1))) in
    ap (λ (text : List ℕ). text ++ later) is ∙ append_assoc old (row_text row) later ∙ ap (λ rest. old ++ rest) (sym (rows_from n row more))
