-- What blobs hold under one expression they hold under another that lays them out the same.
use Rattle.views.proofs.Imports.{◌≡◌, ℕ, ◌/◌, ◌+◌, ◌<◌, ℤ, List, [], map, length, get_or, fold, sym, ap, ◌∙◌, subst, arith, ext_get_or, get_or-map, length-map, fold-map, indices, Fields, kinds_of, IsLaidOut, Owner, Hold, blocks, AreLaid, AreSized, Term, uncounted, layout_by, holds_by, most_slots, StoreMode, AllSettled, IsKept, raw_under, table_under, Table, leaf_types_of, table_holds, owners_of, layout_uncounted, holds_uncounted, slots_uncounted, Tally, blob_lengths, blob_steps, MayMove, settled_moves, may_move, sum_by}
use Rattle.views.proofs.Opened.{seen_from}
use Rattle.views.proofs.KeptLaws.{some_width}

-- the bytes of blobs of a layout's lengths, and the blocks that they are
lengths_in : (layout : List (List Owner)) (blobs : List (List ℕ)) → AreSized layout blobs → map (length {A = ℕ}) blobs ≡ blob_lengths layout
lengths_in layout blobs sized =
    let bytes = λ (owners : List Owner). length owners / 8 in
    ext_get_or 0 (map (length {A = ℕ}) blobs) (map bytes layout) (length-map blobs (length {A = ℕ}) ∙ sized.count ∙ sym (length-map layout bytes)) (λ k l.
    let inside : k < length blobs = omega (arith, l, length-map blobs (length {A = ℕ})) in
    let there : k < length layout = omega (arith, inside, sized.count) in
    let same : length (get_or blobs k []) ≡ length (get_or layout k []) / 8 = omega (arith, sized.lengths k there) in
    get_or-map (length {A = ℕ}) blobs k [] 0 inside ∙ same ∙ sym (get_or-map bytes layout k [] 0 there))

blocks_in : (layout : List (List Owner)) (blobs : List (List ℕ)) → AreSized layout blobs → sum_by (λ (blob : List ℕ). blocks (length blob)) blobs ≡ blob_steps layout
blocks_in layout blobs sized =
    let step = λ (sum n : ℕ). sum + blocks n in
    sym (fold-map step (length {A = ℕ}) 0 blobs) ∙ ap (fold step 0) (lengths_in layout blobs sized) ∙ fold-map step (λ (owners : List Owner). length owners / 8) 0 layout

-- two expressions that are one without their counters, over one array
module _ (a b : Term) {extents others : List ℕ} {fields trees : Fields} (same : uncounted a ≡ uncounted b) (alike : (fields ≡ trees) × (extents ≡ others)) where
  layouts_same : layout_by b others trees ≡ layout_by a extents fields
  layouts_same = grind (arith, layout_uncounted)

  holds_same : holds_by b trees ≡ holds_by a fields
  holds_same = grind (arith, holds_uncounted)

  slots_same : most_slots b others ≡ most_slots a extents
  slots_same = ap (most_slots b) (sym alike.1) ∙ sym (slots_uncounted b extents) ∙ ap (λ (t : Term). most_slots t extents) (sym same) ∙ slots_uncounted a extents

  rows_same : length (indices others) ≡ length (indices extents)
  rows_same = ap (λ (e : List ℕ). length (indices e)) (sym alike.1)

  -- the raw numbers that blobs hold, and the table
  moved_raw : (blobs : List (List ℕ)) → raw_under a extents fields blobs ≡ raw_under b others trees blobs
  moved_raw blobs = grind (arith, layouts_same, rows_same, holds_same)

  moved_table : (blobs : List (List ℕ)) → table_under a extents fields blobs ≡ table_under b others trees blobs
  moved_table blobs = grind (arith, moved_raw)

  -- what is kept of the blobs, in a view that may hold them
  moved_kept : (from to : StoreMode) → MayMove from to (kinds_of fields) (holds_by a fields) → (blobs : List (List ℕ)) → IsKept from b others trees blobs → IsKept to a extents fields blobs
  moved_kept from to may blobs kept =
      let lawful : IsLaidOut (layout_by a extents fields) (length (indices extents)) (map (λ (h : Hold). h.width) (holds_by a fields)) =
      subst (λ (hs : List Hold). IsLaidOut (layout_by a extents fields) (length (indices extents)) (map (λ (h : Hold). h.width) hs)) holds_same
      (grind (arith, rows_same, layouts_same)) in
      let paired : length (holds_by a fields) ≡ length (kinds_of fields) =
      ap (λ (hs : List Hold). length hs) (sym holds_same) ∙ kept.paired ∙ ap (λ (f : Fields). length (kinds_of f)) (sym alike.0) in
      let settled : AllSettled from (length (indices extents)) (kinds_of fields) (holds_by a fields) (raw_under a extents fields blobs) =
      subst (λ (t : List (List ℤ)). AllSettled from (length (indices extents)) (kinds_of fields) (holds_by a fields) t) (sym (moved_raw blobs))
      (subst (λ (hs : List Hold). AllSettled from (length (indices extents)) (kinds_of fields) hs (raw_under b others trees blobs)) holds_same
      (subst (λ (n : ℕ). AllSettled from n (kinds_of fields) (holds_by b trees) (raw_under b others trees blobs)) rows_same
      (subst (λ (f : Fields). AllSettled from (length (indices others)) (kinds_of f) (holds_by b trees) (raw_under b others trees blobs)) (sym alike.0) kept.settled))) in
      record {
        lawful = lawful;
        paired = paired;
        within = λ big. grind (arith, layouts_same, slots_same);
        laid = subst (λ (l : List (List Owner)). AreLaid l blobs) layouts_same kept.laid;
        settled = λ row leaf l m. grind (arith, settled_moves, some_width, may_move);
      }

-- two views over one array, by their fields
pub views_alike : {one two seen others : Table} → seen ≡ one → others ≡ two → (one.fields ≡ two.fields) × (one.extents ≡ two.extents) → (seen.fields ≡ others.fields) × (seen.extents ≡ others.extents)
views_alike {one} {two} {seen} {others} is are alike = grind arith

may_seen : {one two seen others : Table} → seen ≡ one → others ≡ two → MayMove two.mode one.mode (leaf_types_of one) (table_holds one)
    → MayMove others.mode seen.mode (leaf_types_of seen) (table_holds seen)
may_seen {one} {two} {seen} {others} is are may = grind arith

-- what callers see once other blobs stand there
pub seen_moved : {mode : StoreMode} (fields : Fields) (extents : List ℕ) (term : Term) (old new : List (List ℕ)) (tally : Tally) (seen : Table) (rows : List (List ℤ))
    → seen_from mode fields extents term old tally ≡ seen → table_under term extents fields new ≡ rows → seen_from mode fields extents term new tally ≡ (let t : Table = record seen { rows = rows } in t)
seen_moved {mode} fields extents term old new tally seen rows is table = grind arith

-- all blobs of one view are those of another
module _ {mode lender : StoreMode} {fields trees : Fields} {extents others : List ℕ} {a b : Term} {blobs lent : List (List ℕ)} {tally counts : Tally} {one two : Table}
    (kept : IsKept mode a extents fields blobs) (lent_kept : IsKept lender b others trees lent) (is : seen_from mode fields extents a blobs tally ≡ one)
    (are : seen_from lender trees others b lent counts ≡ two) (alike : (one.fields ≡ two.fields) × (one.extents ≡ two.extents)) (same : uncounted one.mapping ≡ uncounted two.mapping) where
  trees_same : (fields ≡ trees) × (extents ≡ others)
  trees_same = views_alike is are alike

  terms_same : uncounted a ≡ uncounted b
  terms_same = ap (λ (t : Table). uncounted t.mapping) is ∙ same ∙ sym (ap (λ (t : Table). uncounted t.mapping) are)

  pub all_sized : map (length {A = ℕ}) blobs ≡ map (length {A = ℕ}) lent
  all_sized =
      lengths_in (layout_by a extents fields) blobs kept.laid.sized ∙ ap blob_lengths (sym (layouts_same a b terms_same trees_same))
      ∙ sym (lengths_in (layout_by b others trees) lent lent_kept.laid.sized)

  pub all_steps : sum_by (λ (blob : List ℕ). blocks (length blob)) lent ≡ blob_steps (owners_of one)
  all_steps =
      blocks_in (layout_by b others trees) lent lent_kept.laid.sized ∙ ap blob_steps (layouts_same a b terms_same trees_same) ∙ ap (λ (t : Table). blob_steps (owners_of t)) is

  module _ {new : List (List ℕ)} (moved : new ≡ lent) where
    pub all_kept : MayMove two.mode one.mode (leaf_types_of one) (table_holds one) → IsKept mode a extents fields new
    all_kept may =
        subst (λ (bs : List (List ℕ)). IsKept mode a extents fields bs) (sym moved) (moved_kept a b terms_same trees_same lender mode (may_seen is are may) lent lent_kept)

    pub all_seen : seen_from mode fields extents a new tally ≡ (let t : Table = record one { rows = two.rows } in t)
    all_seen =
        seen_moved fields extents a blobs new tally one two.rows is
        (ap (table_under a extents fields) moved ∙ moved_table a b terms_same trees_same lent ∙ ap (λ (t : Table). t.rows) are)
