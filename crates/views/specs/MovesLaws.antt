-- The table and the padding after a run was moved.
use Rattle.std.specs.Prelude.{◌≡◌, ℕ, ◌*◌, ◌<◌, ◌≤◌, false, ℤ, List, map, length, Option, IfSome, IsSomeAnd}
use Rattle.views.specs.Imports.{ap, ◌∙◌, subst, get_or-map, arith, is_signed, kinds_of, Fields, LeafType, indices, Order, full_holds, hold_of, Owner, IsLaidOut, Cell, Hold, Term, leaf_cells_kinds, holds_by_kind, leaf_cells, holds_by, array_of, AreLaid, table_in, hold_at, AreMoved, moved_laid, moved_entry, kept_entry, declared, kept_in, own_sign_held, fitting_stays, IsSettled, IsArrayRun, array_holds, run_row, run_other, runs_alike, AreRuns, StoreMode, Strict, Wrap}
use Rattle.views.specs.Moves.{IsOwn, MayMove, IsRunMoved}
use Rattle.views.specs.Stores.{Stays, kind_at}
use Rattle.views.specs.Tables.{Table}

-- ---- what a view of one mode holds another may hold

pub stays_moves : (from to : StoreMode) (kind : LeafType) (hold : Hold) (value : ℤ) → 1 ≤ hold.width → (from ≡ Wrap → to ≡ Strict → hold.signed ≡ is_signed kind)
    → Stays from kind hold value → Stays to kind hold value
stays_moves from to kind hold value some own stays = grind (arith, fitting_stays, kept_in, own_sign_held)

pub settled_moves : (from to : StoreMode) (kind : LeafType) (hold : Hold) (raw : ℤ) → 1 ≤ hold.width → (from ≡ Wrap → to ≡ Strict → hold.signed ≡ is_signed kind)
    → IsSettled from kind hold raw → IsSettled to kind hold raw
settled_moves from to kind hold raw some own settled = record { stays = stays_moves from to kind hold (declared kind raw) some own settled.stays; image = settled.image }

pub may_move : (from to : StoreMode) (kinds : List LeafType) (holds : List Hold) → MayMove from to kinds holds → (leaf : ℕ) → leaf < length kinds
    → from ≡ Wrap → to ≡ Strict → (hold_at holds leaf).signed ≡ is_signed (kind_at kinds leaf)
may_move from to kinds holds may leaf inside one two = grind arith

-- ---- leaves of arrays

full_kinds : (kinds : List LeafType) → full_holds (leaf_cells kinds) ≡ map hold_of kinds
full_kinds kinds = holds_by_kind (leaf_cells kinds) ∙ ap (map hold_of) (leaf_cells_kinds kinds)

-- a leaf that is stored as its type is
pub full_hold : (kinds : List LeafType) (holds : List Hold) (leaf : ℕ) → leaf < length kinds → holds ≡ full_holds (leaf_cells kinds) → hold_at holds leaf ≡ hold_of (kind_at kinds leaf)
full_hold kinds holds leaf inside full = grind (arith, full_kinds, get_or-map)

pub full_own : (kinds : List LeafType) (holds : List Hold) (leaf : ℕ) → leaf < length kinds → holds ≡ full_holds (leaf_cells kinds) → IsOwn (kind_at kinds leaf) (hold_at holds leaf)
full_own kinds holds leaf inside full =
    let same = full_hold kinds holds leaf inside full in (ap (λ (h : Hold). h.signed) same, ap (λ (h : Hold). h.width) same)

said_of : {X : Type 0} (o : Option X) (P Q : X → Type 0) (A : Type 0) → IsSomeAnd o P → IfSome o Q → ((x : X) → P x → Q x → A) → A
said_of o P Q A is said f = grind arith

-- two mappings that lay out arrays in one order store each leaf so
pub runs_full : (one two : Term) (fields : Fields) → AreRuns one two
    → (holds_by one fields ≡ full_holds (leaf_cells (kinds_of fields))) × (holds_by two fields ≡ full_holds (leaf_cells (kinds_of fields)))
runs_full one two fields runs =
    let cells : List Cell = leaf_cells (kinds_of fields) in
    said_of (array_of one) _ _ _ runs (array_holds one fields cells) (λ array other full. (
      full,
      said_of (array_of two) _ _ _ other (array_holds two fields cells) (λ array same full. full),
    ))

-- ---- runs

-- a table with other rows
abbrev pub with_rows : Table → List (List ℤ) → Table
with_rows table rows = record table { rows = rows }

pub rows_after : (old now new : Table) → now ≡ with_rows old now.rows → new ≡ with_rows now new.rows → new ≡ with_rows old new.rows
rows_after old now new is more = more ∙ ap (λ (t : Table). with_rows t new.rows) is

module _ (layout other : List (List Owner)) (order : Order) (extents : List ℕ) (holds : List Hold) (others old new : List (List ℕ))
    (leaf width slot count source from target at : ℕ)
    (laid : IsLaidOut layout (length (indices extents)) (map (λ (h : Hold). h.width) holds))
    (other_laid : IsLaidOut other (length (indices extents)) (map (λ (h : Hold). h.width) holds))
    (leaf_in : leaf < length holds) (width_is : (hold_at holds leaf).width ≡ width) (some : 0 < width)
    (one : IsArrayRun layout order extents leaf width slot count target at) (two : IsArrayRun other order extents leaf width slot count source from)
    (moved : AreMoved others old new source from target at (count * width)) where
  pub run_laid : AreLaid layout old → AreLaid other others → AreLaid layout new
  run_laid =
      moved_laid layout other (length (indices extents)) holds others old new source from target at (count * width) laid other_laid
      (runs_alike layout other order extents leaf width slot count target at source from some one two) moved

  pub run_moved : IsRunMoved order extents (length (indices extents)) (length holds) leaf slot count
      (table_in other (length (indices extents)) holds others) (table_in layout (length (indices extents)) holds old) (table_in layout (length (indices extents)) holds new)
  run_moved =
      let rows : ℕ = length (indices extents) in
      let none : Hold = record { signed = false; width = 0 } in
      let alike = runs_alike layout other order extents leaf width slot count target at source from some one two in
      record {
        moved = λ row inside run.
            moved_entry layout other rows holds others old new source from target at (count * width) laid other_laid alike moved row leaf none inside leaf_in
            (λ k l. run_row layout order extents leaf width slot count target at one row k inside run.0 run.1 (subst (λ (w : ℕ). k < w) width_is l));
        stands = λ row c inside c_in apart.
            kept_entry layout other rows holds others old new source from target at (count * width) laid other_laid alike moved row c none inside c_in
            (λ i k l is.
            let found = run_other layout order extents leaf width slot count target at one row c i k some l is in
            apart found.0 (found.1, found.2));
      }
