-- Runs of slots that are moved between the blobs of two views.
use Rattle.views.proofs.Imports.{◌≡◌, ⊎_elim, inl, ℕ, ◌+◌, ◌*◌, ◌%◌, ◌^◌, ◌<◌, ◌≤◌, ℤ, List, [], false, map, length, get_or, slice_index, Option, Some, None, refl, sym, ap, ◌∙◌, subst, arith, ⊤, IfSome, IsSomeAnd, cases_lt, cases_eq, get_or-map, length-map, indices, Order, slot_at, slot_count, LeafType, width_of, Fields, kinds_of, full_holds, hold_of, entry, IsLaidOut, Owner, Cell, Hold, AreMoved, HasShape, table_in, hold_at, Term, Soa, Aosoa, Count, leaf_cells_kinds, holds_by_kind, leaf_cells, layout_by, holds_by, most_slots, IsTooBigFor, array_of, lanes_in, IsArrayRun, array_holds, AreRuns, StoreMode, declared_table, IsSettled, AllSettled, declared_entry, declared, IsKept, IsMappingOf, raw_under, table_under, size_of, IsInBlock, IsInRun, IsRunMoved, Table, leaf_count_of, settled_moves, full_hold, full_own, run_laid, run_moved, kind_at}
use Rattle.map_expr.specs.Terms.{Heat}
use Rattle.views.proofs.KeptLaws.{raw_shape, hold_some}

-- what is said of a value three times says another thing of it
if_three : {X : Type 0} (o : Option X) (P Q R S : X → Type 0) → ((x : X) → P x → Q x → R x → S x) → IfSome o P → IfSome o Q → IfSome o R → IfSome o S
if_three o P Q R S f p q r = grind arith

-- two values that go with each other, and what is said of each
record AreTwo {X : Type 0} (o p : Option X) (R : X → X → Type 0) (P Q : X → Type 0) : Type 0 where
  one : X
  two : X
  is_one : o ≡ Some one
  both : R one two
  of_one : P one
  of_two : Q two

two_of : {X : Type 0} (o p : Option X) (R : X → X → Type 0) (P Q : X → Type 0) → IsSomeAnd o (λ x. IsSomeAnd p (R x)) → IfSome o P → IfSome p Q → AreTwo o p R P Q
two_of None p R P Q are a b = absurd are
two_of (Some x) None R P Q are a b = absurd are
two_of (Some x) (Some y) R P Q are a b = record { one = x; two = y; is_one = refl; both = are; of_one = a; of_two = b }

-- the width of a leaf that is stored as its type is
full_width : (kinds : List LeafType) (holds : List Hold) (leaf : ℕ) → leaf < length kinds → holds ≡ full_holds (leaf_cells kinds)
    → slice_index (map (λ (h : Hold). h.width) holds) leaf ≡ width_of (kind_at kinds leaf)
full_width kinds holds leaf inside full =
    let none : Hold = record { signed = false; width = 0 } in
    let same : length holds ≡ length kinds = ap (λ (hs : List Hold). length hs) (full ∙ holds_by_kind (leaf_cells kinds)) ∙ length-map (map (λ (c : Cell). c.kind) (leaf_cells kinds)) hold_of ∙ ap (λ (ks : List LeafType). length ks) (leaf_cells_kinds kinds) in
    get_or-map (λ (h : Hold). h.width) holds leaf none 0 (omega arith) ∙ ap (λ (h : Hold). h.width) (full_hold kinds holds leaf inside full)

-- widths are whole bytes
pub whole_width : (kind : LeafType) → 8 * size_of kind ≡ width_of kind
whole_width kind = grind arith

pub few_bits : (kind : LeafType) → width_of kind ≤ 64
few_bits kind = grind arith

some_width : (kind : LeafType) → 0 < width_of kind
some_width kind = grind arith

-- where a run of a mapping begins
abbrev pub HasRun : Term → List (List Owner) → List ℕ → ℕ → ℕ → ℕ → ℕ → ℕ → Type 0
HasRun term layout extents leaf width slot blob byte = IfSome (array_of term) (λ array. (count : ℕ) → 0 < count → slot + count ≤ slot_count array.0 extents
    → slot % lanes_in array.1 (slot_count array.0 extents) + count ≤ lanes_in array.1 (slot_count array.0 extents)
    → IsArrayRun layout array.0 extents leaf width slot count blob (8 * byte))

-- what is said of a leaf's slots in a view
pub record IsRunOf (term : Term) (extents : List ℕ) (fields : Fields) (leaf slot count blob byte : ℕ) (array : Order × Option ℕ) : Type 0 where
  pub run : IsArrayRun (layout_by term extents fields) array.0 extents leaf (width_of (kind_at (kinds_of fields) leaf)) slot count blob (8 * byte)
  pub full : holds_by term fields ≡ full_holds (leaf_cells (kinds_of fields))

-- that of a view's mapping, in the view's own words
pub run_there : {term : Term} {extents : List ℕ} {fields : Fields} {mapped : Term} {inside : List ℕ} {layout : List (List Owner)} {slots : ℕ} {cells : List Cell} {holds : List Hold}
    → IsMappingOf term extents fields mapped inside layout slots cells holds → (leaf slot count blob byte : ℕ) → leaf < length (kinds_of fields) → 0 < count
    → IsInBlock term extents slot count → HasRun mapped layout inside leaf (slice_index (map (λ (h : Hold). h.width) holds) leaf) slot blob byte
    → IfSome (array_of term) (IsRunOf term extents fields leaf slot count blob byte)
run_there {term} {extents} {fields} {mapped} {inside} {layout} {slots} {cells} {holds} mapping leaf slot count blob byte leaf_in some within has =
    let width : ℕ = slice_index (map (λ (h : Hold). h.width) (holds_by term fields)) leaf in
    let here : HasRun term (layout_by term extents fields) extents leaf width slot blob byte = grind (arith, slice_index) in
    if_three (array_of term) _ _ _ _
    (λ array run block full. let found : IsRunOf term extents fields leaf slot count blob byte array = record {
      run = subst (λ (w : ℕ). IsArrayRun (layout_by term extents fields) array.0 extents leaf w slot count blob (8 * byte))
          (full_width (kinds_of fields) (holds_by term fields) leaf leaf_in full) (run count some block.0 block.1);
      full = full;
    } in found)
    here within (array_holds term fields (leaf_cells (kinds_of fields)))

-- a run of slots of a leaf, in the blobs of two views over one array
pub record IsMove (a b : Term) (extents others_extents : List ℕ) (fields trees : Fields) (leaf slot count target at source from len : ℕ) : Type 0 where
  pub alike : (fields ≡ trees) × (extents ≡ others_extents)
  pub arrays : AreRuns a b
  pub leaf_in : leaf < length (kinds_of fields)
  pub some : 0 < count
  pub len_is : len ≡ count * size_of (kind_at (kinds_of fields) leaf)
  pub one : IfSome (array_of a) (IsRunOf a extents fields leaf slot count target at)
  pub two : IfSome (array_of b) (IsRunOf b others_extents trees leaf slot count source from)

module _ {mode lender : StoreMode} {a b : Term} {extents others_extents : List ℕ} {fields trees : Fields} {old others : List (List ℕ)} {leaf slot count target at source from len : ℕ}
    (move : IsMove a b extents others_extents fields trees leaf slot count target at source from len) (kept : IsKept mode a extents fields old) (others_kept : IsKept lender b others_extents trees others) where
  abbrev OneOrder : Order × Option ℕ → Order × Option ℕ → Type 0
  OneOrder x y = x.0 ≡ y.0

  both : AreTwo (array_of a) (array_of b) OneOrder (IsRunOf a extents fields leaf slot count target at) (IsRunOf b extents fields leaf slot count source from)
  both = grind (arith, two_of)

  there : IsKept lender b extents fields others
  there = subst (λ (f : Fields). IsKept lender b extents f others) (sym move.alike.0) (subst (λ (e : List ℕ). IsKept lender b e trees others) (sym move.alike.1) others_kept)

  abbrev width : ℕ
  width = width_of (kind_at (kinds_of fields) leaf)

  abbrev order : Order
  order = both.one.0

  abbrev layout : List (List Owner)
  layout = layout_by a extents fields

  abbrev other : List (List Owner)
  other = layout_by b extents fields

  abbrev holds : List Hold
  holds = holds_by a fields

  bits : 8 * len ≡ count * width
  bits = grind (arith, whole_width)

  other_run : IsArrayRun other order extents leaf width slot count source (8 * from)
  other_run = subst (λ (o : Order). IsArrayRun other o extents leaf width slot count source (8 * from)) (sym both.both) both.of_two.run

  holds_same : holds_by b fields ≡ holds
  holds_same = both.of_two.full ∙ sym both.of_one.full

  -- the bytes are there
  pub target_in : target < length old
  target_in = omega (arith, both.of_one.run.blob_in, kept.laid.sized.count)

  pub target_room : at + len ≤ length (get_or old target [])
  target_room = omega (arith, both.of_one.run.within, kept.laid.sized.lengths target both.of_one.run.blob_in, bits)

  pub source_in : source < length others
  source_in = omega (arith, other_run.blob_in, there.laid.sized.count)

  pub source_room : from + len ≤ length (get_or others source [])
  source_room = omega (arith, other_run.within, there.laid.sized.lengths source other_run.blob_in, bits)

  module _ {new : List (List ℕ)} (moved : AreMoved others old new source (8 * from) target (8 * at) (8 * len)) where
    moved_bits : AreMoved others old new source (8 * from) target (8 * at) (count * width)
    moved_bits = subst (λ (n : ℕ). AreMoved others old new source (8 * from) target (8 * at) n) bits moved

    other_lawful : IsLaidOut other (length (indices extents)) (map (λ (h : Hold). h.width) holds)
    other_lawful = subst (λ (hs : List Hold). IsLaidOut other (length (indices extents)) (map (λ (h : Hold). h.width) hs)) holds_same there.lawful

    in_holds : leaf < length holds
    in_holds = omega (arith, kept.paired, move.leaf_in)

    width_is : (hold_at holds leaf).width ≡ width
    width_is = ap (λ (h : Hold). h.width) (full_hold (kinds_of fields) holds leaf move.leaf_in both.of_one.full)

    is_moved : IsRunMoved order extents (length (indices extents)) (length holds) leaf slot count
        (table_in other (length (indices extents)) holds others) (raw_under a extents fields old) (raw_under a extents fields new)
    is_moved =
        run_moved layout other order extents holds others old new leaf width slot count source (8 * from) target (8 * at) kept.lawful other_lawful in_holds width_is
        (some_width (kind_at (kinds_of fields) leaf)) both.of_one.run other_run moved_bits

    same_raw : table_in other (length (indices extents)) holds others ≡ raw_under b extents fields others
    same_raw = ap (λ (hs : List Hold). table_in other (length (indices extents)) hs others) (sym holds_same)

    source_settled : AllSettled lender (length (indices extents)) (kinds_of fields) holds (table_in other (length (indices extents)) holds others)
    source_settled =
        subst (λ (hs : List Hold). AllSettled lender (length (indices extents)) (kinds_of fields) hs (table_in other (length (indices extents)) hs others)) holds_same there.settled

    -- what is kept of the blobs then
    pub run_kept : IsKept mode a extents fields new
    run_kept = record {
      lawful = kept.lawful;
      paired = kept.paired;
      within = kept.within;
      laid =
          run_laid layout other order extents holds others old new leaf width slot count source (8 * from) target (8 * at) kept.lawful other_lawful in_holds width_is
          (some_width (kind_at (kinds_of fields) leaf)) both.of_one.run other_run moved_bits kept.laid there.laid;
      settled = λ row c row_in c_in.
          let Settled : ℤ → Type 0 = λ value. IsSettled mode (kind_at (kinds_of fields) c) (hold_at holds c) value in
          let in_table : c < length holds = omega (arith, kept.paired) in
          let stands : ((c ≡ leaf) → IsInRun order extents slot count row → ⊥) → Settled (entry (raw_under a extents fields new) row c) =
          λ apart. subst Settled (sym (is_moved.stands row c row_in in_table apart)) (kept.settled row c row_in c_in) in
          ⊎_elim
          (λ (same : c ≡ leaf).
          ⊎_elim (λ (low : slot_at order extents row < slot). stands (λ e run. absurd (let l : slot ≤ slot_at order extents row = run.0 in omega arith)))
          (λ (from_slot : slot ≤ slot_at order extents row).
          ⊎_elim
          (λ (before : slot_at order extents row < slot + count).
          subst Settled (sym (ap (entry (raw_under a extents fields new) row) same ∙ is_moved.moved row row_in (from_slot, before) ∙ ap (entry (table_in other (length (indices extents)) holds others) row) (sym same)))
          (settled_moves lender mode (kind_at (kinds_of fields) c) (hold_at holds c) (entry (table_in other (length (indices extents)) holds others) row c)
          (hold_some kept c c_in) (λ wrap strict. (full_own (kinds_of fields) holds c c_in both.of_one.full).0) (source_settled row c row_in c_in)))
          (λ (past : slot + count ≤ slot_at order extents row). stands (λ e run. absurd (let l : slot_at order extents row < slot + count = run.1 in omega arith)))
          (cases_lt (slot_at order extents row) (slot + count)))
          (cases_lt (slot_at order extents row) slot))
          (λ (other_leaf : c ≡ leaf → ⊥). stands (λ e run. other_leaf e))
          (cases_eq c leaf);
    }

    -- and what the raw numbers are
    pub run_raw : IfSome (array_of a) (λ array. IsRunMoved array.0 extents (length (indices extents)) (length (kinds_of fields)) leaf slot count
        (raw_under b others_extents trees others) (raw_under a extents fields old) (raw_under a extents fields new))
    run_raw = grind (arith, is_moved, same_raw)

-- the same of the tables that raw numbers stand for
run_declared : (by : Order) (extents : List ℕ) (rows leaf slot count : ℕ) (kinds : List LeafType) (source old new : List (List ℤ)) → leaf < length kinds
    → HasShape rows (length kinds) source → HasShape rows (length kinds) old → HasShape rows (length kinds) new → IsRunMoved by extents rows (length kinds) leaf slot count source old new
    → IsRunMoved by extents rows (length kinds) leaf slot count (declared_table kinds source) (declared_table kinds old) (declared_table kinds new)
run_declared by extents rows leaf slot count kinds source old new leaf_in one two three is = record {
  moved = λ row l run.
      declared_entry rows kinds new three row leaf l leaf_in ∙ ap (declared (kind_at kinds leaf)) (is.moved row l run) ∙ sym (declared_entry rows kinds source one row leaf l leaf_in);
  stands = λ row other l m apart.
      declared_entry rows kinds new three row other l m ∙ ap (declared (kind_at kinds other)) (is.stands row other l m apart) ∙ sym (declared_entry rows kinds old two row other l m);
}

if_one : {X : Type 0} (o : Option X) (P Q : X → Type 0) → ((x : X) → P x → Q x) → IfSome o P → IfSome o Q
if_one o P Q f p = grind arith

pub run_table : {mode lender : StoreMode} {a b : Term} {extents others_extents : List ℕ} {fields trees : Fields} {old others new : List (List ℕ)} (leaf slot count : ℕ)
    → (fields ≡ trees) × (extents ≡ others_extents) → leaf < length (kinds_of fields) → IsKept mode a extents fields old → IsKept lender b others_extents trees others → IsKept mode a extents fields new
    → IfSome (array_of a) (λ array. IsRunMoved array.0 extents (length (indices extents)) (length (kinds_of fields)) leaf slot count
    (raw_under b others_extents trees others) (raw_under a extents fields old) (raw_under a extents fields new))
    → IfSome (array_of a) (λ array. IsRunMoved array.0 extents (length (indices extents)) (length (kinds_of fields)) leaf slot count
    (table_under b others_extents trees others) (table_under a extents fields old) (table_under a extents fields new))
run_table {mode} {lender} {a} {b} {extents} {others_extents} {fields} {trees} {old} {others} {new} leaf slot count alike leaf_in kept others_kept new_kept =
    let rows : ℕ = length (indices extents) in
    let kinds : List LeafType = kinds_of fields in
    let source : List (List ℤ) = raw_under b others_extents trees others in
    let shape : HasShape rows (length kinds) source =
    subst (λ (f : Fields). HasShape rows (length (kinds_of f)) source) (sym alike.0)
    (subst (λ (e : List ℕ). HasShape (length (indices e)) (length (kinds_of trees)) source) (sym alike.1) (raw_shape others_kept)) in
    let same : declared_table kinds source ≡ table_under b others_extents trees others = ap (λ (f : Fields). declared_table (kinds_of f) source) alike.0 in
    if_one (array_of a) _ _ (λ array is.
    subst (λ (t : List (List ℤ)). IsRunMoved array.0 extents rows (length kinds) leaf slot count t (table_under a extents fields old) (table_under a extents fields new)) same
    (run_declared array.0 extents rows leaf slot count kinds source (raw_under a extents fields old) (raw_under a extents fields new) leaf_in shape
    (raw_shape kept) (raw_shape new_kept) is))

-- a mapping that lays out arrays over few slots, as those of views are
slots_are : (term : Term) (extents : List ℕ) → IfSome (array_of term) (λ array. slot_count array.0 extents ≡ most_slots term extents)
slots_are (Soa form by) extents = refl
slots_are (Aosoa lanes by) extents = refl
slots_are (Count inner) extents = slots_are inner extents
slots_are (Heat granule inner) extents = slots_are inner extents
slots_are other extents = tt

few_in : (o : Option (Order × Option ℕ)) (P : Order × Option ℕ → Type 0) (extents : List ℕ) (slot count most : ℕ) → IsSomeAnd o P
    → IfSome o (λ array. (slot + count ≤ slot_count array.0 extents) × (slot % lanes_in array.1 (slot_count array.0 extents) + count ≤ lanes_in array.1 (slot_count array.0 extents)))
    → IfSome o (λ array. slot_count array.0 extents ≡ most) → most ≤ 2 ^ 24 → count ≤ 2 ^ 24
few_in o P extents slot count most some within slots few = grind arith

pub few_slots : (a b : Term) (extents : List ℕ) (fields : Fields) (slot count : ℕ) → AreRuns a b → IsInBlock a extents slot count
    → (IsTooBigFor a extents fields (leaf_cells (kinds_of fields)) → ⊥) → count ≤ 2 ^ 24
few_slots a b extents fields slot count arrays block small =
    few_in (array_of a) (λ x. IsSomeAnd (array_of b) (λ y. x.0 ≡ y.0)) extents slot count (most_slots a extents) arrays block (slots_are a extents)
    (⊎_elim (λ (many : 2 ^ 24 < most_slots a extents). absurd (small (inl many))) (λ (few : most_slots a extents ≤ 2 ^ 24). few) (cases_lt (2 ^ 24) (most_slots a extents)))

-- the slot that a mapping is asked for
pub slot_there : {term : Term} {extents : List ℕ} {fields : Fields} {mapped : Term} {inside : List ℕ} {layout : List (List Owner)} {slots : ℕ} {cells : List Cell} {holds : List Hold}
    → IsMappingOf term extents fields mapped inside layout slots cells holds → (P : Order × Option ℕ → Type 0) (slot count : ℕ) → IsSomeAnd (array_of term) P
    → IsInBlock term extents slot count → 0 < count → IsSomeAnd (array_of mapped) (λ array. slot < slot_count array.0 inside)
slot_there {term} {extents} {fields} {mapped} {inside} mapping P slot count some within more = grind arith

-- of two that lay out arrays the other does
other_array : (o p : Option (Order × Option ℕ)) → IsSomeAnd o (λ x. IsSomeAnd p (λ y. x.0 ≡ y.0)) → IsSomeAnd p (λ y. ⊤)
other_array o p are = grind arith

pub other_is : (a b : Term) → AreRuns a b → IsSomeAnd (array_of b) (λ y. ⊤)
other_is a b are = other_array (array_of a) (array_of b) are

-- no slot is moved
pub none_moved : (o : Option (Order × Option ℕ)) (extents : List ℕ) (rows leaves leaf slot count : ℕ) (source old : List (List ℤ)) → count ≡ 0
    → IfSome o (λ array. IsRunMoved array.0 extents rows leaves leaf slot count source old old)
none_moved o extents rows leaves leaf slot count source old none = grind arith

pub nothing_moved : (seen : Table) (leaf slot count : ℕ) (source : List (List ℤ)) → count ≡ 0
    → IfSome (array_of seen.mapping) (λ array. IsRunMoved array.0 seen.extents (length seen.rows) (leaf_count_of seen) leaf slot count source seen.rows seen.rows)
nothing_moved seen leaf slot count source none = none_moved (array_of seen.mapping) seen.extents (length seen.rows) (leaf_count_of seen) leaf slot count source seen.rows none

-- in the words of callers
pub runs_seen : (one two : Table) {seen others : Table} → seen ≡ one → others ≡ two → AreRuns one.mapping two.mapping → AreRuns seen.mapping others.mapping
runs_seen one two {seen} {others} is are runs = grind arith

pub one_seen : (one : Table) {seen : Table} (other : Term) → seen ≡ one → AreRuns one.mapping other → AreRuns seen.mapping other
one_seen one other is runs = subst (λ (t : Table). AreRuns t.mapping other) (sym is) runs

pub block_seen : (one : Table) {seen : Table} (slot count : ℕ) → seen ≡ one → IsInBlock one.mapping one.extents slot count → IsInBlock seen.mapping seen.extents slot count
block_seen one slot count is block = subst (λ (t : Table). IsInBlock t.mapping t.extents slot count) (sym is) block

pub moved_seen : (one two : Table) {seen others : Table} (leaf slot count leaves : ℕ) (new : List (List ℤ)) → seen ≡ one → others ≡ two → leaves ≡ leaf_count_of seen → length (indices seen.extents) ≡ length seen.rows
    → IfSome (array_of seen.mapping) (λ array. IsRunMoved array.0 seen.extents (length (indices seen.extents)) leaves leaf slot count others.rows seen.rows new)
    → IfSome (array_of one.mapping) (λ array. IsRunMoved array.0 one.extents (length one.rows) (leaf_count_of one) leaf slot count two.rows one.rows new)
moved_seen one two {seen} {others} leaf slot count leaves new is are leaves_are rows h = grind arith
