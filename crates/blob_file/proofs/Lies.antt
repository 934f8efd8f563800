-- A header with which a view was made, and one with which none was.
use Rattle.blob_file.proofs.Imports.{◌≡◌, ℕ, false, List, map, None, Ok, sym, ap, ◌∙◌, subst, list_any, ExtentWord, bad_shape, bad_extents, extent_of, is_rows, term_of, accepted, layout_by, leaf_cells, record_fault, kinds_of, Fields, Record, tree_of, IsRecord, Dim, IsOverLimits, owners_by, CanLie, fields_in, header_in, FileHeader, arith}
use Rattle.blob_file.proofs.Heads.{words_back}

-- the record of a header is that of its tree
pub fit_by : (dim : Dim) → IsRecord dim → record_fault (Record (fields_in (tree_of dim))) ≡ None → record_fault (tree_of dim) ≡ None
fit_by dim kind fit = grind arith

module _ (header : FileHeader) (plain : list_any is_rows header.words ≡ false) where
  pub shaped_by : CanLie (header_in header) → bad_shape header.words ≡ None
  shaped_by can = sym (ap bad_shape (words_back header.words plain)) ∙ can.shaped

  pub ranged_by : CanLie (header_in header) → bad_extents header.words None ≡ None
  ranged_by can = sym (ap (λ (words : List ExtentWord). bad_extents words None) (words_back header.words plain)) ∙ can.ranged

  module _ (fields : Fields) (extents : List ℕ) (made : Record fields ≡ tree_of header.dim) (are : extents ≡ map (extent_of 0) header.words) where
    same : fields ≡ fields_in (tree_of header.dim)
    same = ap fields_in made

    over_by : IsOverLimits (term_of header.expr) (map (extent_of 0) header.words) (fields_in (tree_of header.dim)) → IsOverLimits (term_of header.expr) extents fields
    over_by over = grind (arith, same, tree_of)

    over_of : IsOverLimits (term_of header.expr) extents fields → IsOverLimits (term_of header.expr) (map (extent_of 0) header.words) (fields_in (tree_of header.dim))
    over_of over = grind (arith, tree_of, same)

    pub can_by : record_fault (tree_of header.dim) ≡ None → bad_shape header.words ≡ None → bad_extents header.words None ≡ None
        → accepted (term_of header.expr) fields (leaf_cells (kinds_of fields)) ≡ Ok tt → (IsOverLimits (term_of header.expr) extents fields → ⊥) → CanLie (header_in header)
    can_by fit shaped ranged mapped within = record {
      fit = ap (λ (f : Fields). record_fault (Record f)) (sym same) ∙ ap record_fault made ∙ fit;
      shaped = ap bad_shape (words_back header.words plain) ∙ shaped;
      ranged = ap (λ (words : List ExtentWord). bad_extents words None) (words_back header.words plain) ∙ ranged;
      mapped = subst (λ (f : Fields). accepted (term_of header.expr) f (leaf_cells (kinds_of f)) ≡ Ok tt) same mapped;
      within = λ over. within (over_by over);
    }

    pub same_owners : layout_by (term_of header.expr) extents fields ≡ owners_by (header_in header)
    same_owners = grind (arith, same)

    pub none_by : (accepted (term_of header.expr) fields (leaf_cells (kinds_of fields)) ≡ Ok tt → (IsOverLimits (term_of header.expr) extents fields → ⊥) → ⊥) → CanLie (header_in header) → ⊥
    none_by none can = grind (arith, same, over_of)
