-- The last entry that a leaf is under says its width.
use Rattle.map_checks.proofs.Imports.{◌≡◌, ℕ, Bool, true, false, List, [], ◌∷◌, refl, sym, ap, ◌∙◌, if◌then◌else◌, false≢true, fold-append, Fields, is_under, FieldWidth, width_by, width_at, is_said, LastCounts, ◌||◌}

-- entries that say nothing of a leaf leave its width
stays : (fields : Fields) (leaf width : ℕ) (entries : List FieldWidth) → is_said fields leaf entries ≡ false → width_at fields width entries leaf ≡ width
stays fields leaf width [] free = refl
stays fields leaf width (entry ∷ entries) free = of_test (stays fields leaf width entries) (is_under fields entry.path leaf) free where
  of_test : (is_said fields leaf entries ≡ false → width_at fields width entries leaf ≡ width) → (under : Bool) → (under || is_said fields leaf entries) ≡ false
      → width_at fields (if under then entry.width else width) entries leaf ≡ width
  of_test below true is = absurd (false≢true (sym is))
  of_test below false is = below is

pub last_counts : (fields : Fields) (width leaf : ℕ) → LastCounts fields width leaf
last_counts fields width leaf = record {
  last = λ before behind entry under free.
      fold-append (width_by fields leaf) width before (entry ∷ behind)
      ∙ stays fields leaf (width_by fields leaf (width_at fields width before leaf) entry) behind free
      ∙ ap (λ (b : Bool). if b then entry.width else width_at fields width before leaf) under;
  none = stays fields leaf width;
}
