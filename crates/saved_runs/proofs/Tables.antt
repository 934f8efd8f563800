-- New tables of a run can be said by a file.
use Rattle.saved_runs.proofs.Imports.{◌≡◌, ◌⊎◌, ℕ, ◌*◌, ◌^◌, ◌<◌, false, nat_lt, List, length, Option, Some, None, Ok, ⊎_elim, arith, sum_by, IfSome, ltb-false, product, bad_shape, bad_extents, extents_for, ExtentWord, kinds_of, Fields, Owner, MapTerm, accepted, leaf_cells, layout_by, most_slots, StoreMode, New, IsOverLimits, granules_for, Table, Each, HasLines, CanLie, header_of, HoldsBits, World, Entry, nameless, free, known, refused_if, refused_by, ok_or, shaped, resolved, made, zeros_of, named, BadExtents, BadMapping, TooBig, IfGoes, to, bind, behind, known_found, IsSavable}
use Rattle.worlds.specs.Prelude.{Named}
use Rattle.saved_runs.proofs.Went.{unrefused}
use Rattle.saved_runs.proofs.Maps.{HasTokens}
use Rattle.saved_runs.proofs.Lines.{IsLow}
use Rattle.saved_runs.proofs.Extents.{AreExtents, are_extents, rows_are}
use Rattle.saved_runs.proofs.Headers.{accepted_low, view_has_line}
use Rattle.saved_runs.proofs.Rows.{zeros_stay}
use Rattle.saved_runs.proofs.Worlds.{IsGoodRecord, IsGoodMapping, IsGoodWorld, of_found, uncaused, nameless_good}

-- the limits of a view
not_over : (term : MapTerm) (extents : List ℕ) (fields : Fields) → nat_lt (2 ^ 24) (most_slots term extents) ≡ false
    → nat_lt (8 * 2 ^ 28) (sum_by (length {A = Owner}) (layout_by term extents fields)) ≡ false → nat_lt (2 ^ 24) (granules_for term (layout_by term extents fields)) ≡ false → IsOverLimits term extents fields → ⊥
not_over term extents fields slots bits granules over =
    ⊎_elim (λ (big : (2 ^ 24 < most_slots term extents) ⊎ (8 * 2 ^ 28 < sum_by (length {A = Owner}) (layout_by term extents fields))).
    ⊎_elim (λ (many : 2 ^ 24 < most_slots term extents). both (2 ^ 24) (most_slots term extents) slots many)
    (λ (many : 8 * 2 ^ 28 < sum_by (length {A = Owner}) (layout_by term extents fields)). both (8 * 2 ^ 28) (sum_by (length {A = Owner}) (layout_by term extents fields)) bits many) big)
    (λ (many : 2 ^ 24 < granules_for term (layout_by term extents fields)). both (2 ^ 24) (granules_for term (layout_by term extents fields)) granules many) over
  where
    both : (a b : ℕ) → nat_lt a b ≡ false → a < b → ⊥
    both a b test less = omega (arith, ltb-false a b test, less)

-- a table of zeros that a file can say
pub record IsMade (zeros table : Table) : Type 0 where
  pub is : table ≡ zeros
  pub savable : IsSavable table

-- a table that is made of a record, extents and a mapping of lines
module _ (holds_bits : HoldsBits) (views : List (Entry Table)) (mode : StoreMode) (fields : Fields) (extents : List ℕ) (term : MapTerm)
    (of_record : IsGoodRecord fields) (are : AreExtents extents) (of_term : IsGoodMapping term) where
  abbrev zero_table : Table
  zero_table = zeros_of mode fields extents term

  zeros_savable : HasLines (header_of zero_table) → CanLie (header_of zero_table) → IsSavable zero_table
  zeros_savable lines lies = record { lines = lines; lies = lies; rows = zeros_stay (header_of zero_table) (λ leaf l. holds_bits (header_of zero_table) leaf lines lies l) }

  zeros_good : accepted term fields (leaf_cells (kinds_of fields)) ≡ Ok tt → (IsOverLimits term extents fields → ⊥) → IsSavable zero_table
  zeros_good mapped within =
      zeros_savable
      (record {
        of_record = of_record.line;
        of_view = view_has_line (header_of zero_table) of_term.has (accepted_low term fields (leaf_cells (kinds_of fields)) mapped) are.some are.low;
        nameless = of_term.nameless;
      })
      (record { fit = of_record.fit; shaped = are.shaped; ranged = are.ranged; mapped = mapped; within = within })

  pub made_good : IfGoes (IsMade (zeros_of mode fields extents term)) (made views mode fields extents term)
  made_good =
      let P : Table → Type 0 = IsMade (zeros_of mode fields extents term) in
      bind P (ok_or BadMapping (accepted term fields (leaf_cells (kinds_of fields)))) _ (λ fit a.
      bind P (refused_if (nat_lt (2 ^ 24) (most_slots term extents)) TooBig) _ (λ slots b.
      grind (arith, bind, nat_lt, not_over, unrefused, to, zeros_good)))

-- extents for the words of a line; those for a dataset have its number of rows
pub record AreExtentsFor (rows : Option ℕ) (extents : List ℕ) : Type 0 where
  pub are : AreExtents extents
  pub counts : IfSome rows (λ n. product extents ≡ n)

pub resolved_good : (words : List ExtentWord) (rows : Option ℕ) → bad_shape words ≡ None → Each IsLow words → IfGoes (AreExtentsFor rows) (resolved words rows)
resolved_good words rows shaped low =
    bind (AreExtentsFor rows) (refused_by BadExtents (bad_extents words rows)) _ (λ fit r.
    (let ranged = uncaused BadExtents (bad_extents words rows) fit r in
    to _ (record { are = are_extents words rows shaped ranged low; counts = counted rows ranged })))
  where
    counted : (rows : Option ℕ) → bad_extents words rows ≡ None → IfSome rows (λ n. product (extents_for words rows) ≡ n)
    counted None ranged = tt
    counted (Some n) ranged = rows_are words n shaped ranged

-- what the words of a new view stand for
pub record IsGoodNamed (words : List ExtentWord) (whole : Named) : Type 0 where
  pub fields : IsGoodRecord whole.fields
  pub term : IsGoodMapping whole.mapping
  pub shaped : bad_shape words ≡ None

pub named_good : (world : World) → IsGoodWorld world → (new : New) → HasTokens new.term → IfGoes (IsGoodNamed new.words) (named world new)
named_good world good new has =
    let P : Named → Type 0 = IsGoodNamed new.words in
    bind P (free new.name world.views) _ (λ unused a.
    bind P (known new.schema world.records) _ (λ fields k.
    behind P IsGoodMapping (nameless world.mappings new.term) _ (nameless_good world good new.term has) (λ whole one.
    grind (arith, bind, to, of_found, known_found, uncaused))))
