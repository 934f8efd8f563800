-- Tables that are copied whole: what they hold, what is counted, and the steps.
use Rattle.layout_copy.proofs.Imports.{◌≡◌, ◌+◌, ◌*◌, ◌≤◌, ℕ, ℤ, List, append-nil, length, Option, Ok, sym, ap, ◌∙◌, subst, arith, IsSomeAnd, length-map, leaves, Fields, Hold, HasShape, Term, uncounted, holds_by, array_of, AreRuns, Strategy, fitting_stays, stays_declared, with_rows, stays_moves, may_move, runs_full, CountsNothing, AllStay, Table, IsTable, table_holds, leaf_count_of, leaf_types_of, after_log, after_stores, Write, all_accesses, all_touches, holds_uncounted, AreAlike, IsCopied, copy_cost, IsWay, MayMoveTo, staying_held, staying_kept, AllTake}
use Rattle.map_any.specs.declared.strategy.Strategy.TheVariants as way
use Rattle.layout_copy.proofs.WayLaws.{one_way}

-- the steps of a copy field by field
pub fields_steps : (source target : Table) (before after : ℕ) → IsTable source → AreAlike source target → IsWay source target way.Fields
    → after ≤ before + 2 * (length source.rows * leaf_count_of source)
    → (strategy : Strategy) → IsWay source target strategy → after ≤ before + copy_cost strategy source.mapping target.mapping target.fields target.extents
fields_steps source target before after is alike fields bound strategy other = grind (arith, leaves, one_way)

-- views of one expression, counters left out, store leaves the same
blob_holds : (one two : Term) (fields : Fields) → uncounted one ≡ uncounted two → holds_by one fields ≡ holds_by two fields
blob_holds one two fields same = grind (arith, holds_uncounted)

-- and so do those that lay out arrays: as the types are
run_holds : (one two : Term) (fields : Fields) → AreRuns one two → holds_by one fields ≡ holds_by two fields
run_holds one two fields are = grind (arith, runs_full)

-- a table that has become another one, each of its entries counted
module _ (source old now new : Table) (is : IsTable source) (to : IsTable old) (alike : AreAlike source old)
    (moved : now ≡ with_rows old source.rows) (counted : new ≡ after_log now (all_touches 0 1 (leaf_count_of now) (length now.rows))) where
  abbrev Stay : Type 0
  Stay = AllStay old.mode (length source.rows) (leaf_types_of old) (table_holds old) source.rows

  -- what the source holds, by the types of the target's leaves
  there : (holds : List Hold) → table_holds source ≡ holds → AllStay source.mode (length source.rows) (leaf_types_of old) holds source.rows
  there holds same = grind arith

  -- it stays in the target where the leaves are stored alike, and where each takes all of its type
  moved_stay : MayMoveTo source old → table_holds source ≡ table_holds old → Stay
  moved_stay may holds row leaf row_in leaf_in = grind (arith, stays_moves, may_move, there)

  taken_stay : AllTake old → Stay
  taken_stay takes row leaf row_in leaf_in = grind (arith, length-map, leaves, fitting_stays, stays_declared, there)

  whole_copied : Stay → IsCopied source old new (Ok tt)
  whole_copied stay =
      let shape : HasShape (length source.rows) (leaf_count_of old) source.rows = subst (λ (f : Fields). HasShape (length source.rows) (length (leaves f)) source.rows) alike.0 is.shape in (
        alike,
        staying_held old source.rows shape stay,
        counted ∙ ap (λ (t : Table). after_log t (all_touches 0 1 (leaf_count_of t) (length t.rows))) moved
            ∙ ap (after_stores old source.rows) (append-nil (all_accesses Write (leaf_count_of old) (length source.rows)))
            ∙ ap (λ (rows : List (List ℤ)). after_stores old rows (all_accesses Write (leaf_count_of old) (length source.rows))) (sym (staying_kept old source.rows shape stay)),
      )

  pub blobs_copied : MayMoveTo source old → uncounted source.mapping ≡ uncounted old.mapping → IsCopied source old new (Ok tt)
  blobs_copied may same = whole_copied (moved_stay may (blob_holds source.mapping old.mapping source.fields same ∙ ap (holds_by old.mapping) alike.0))

  pub runs_copied : MayMoveTo source old → AreRuns source.mapping old.mapping → IsCopied source old new (Ok tt)
  runs_copied may are = whole_copied (moved_stay may (run_holds source.mapping old.mapping source.fields are ∙ ap (holds_by old.mapping) alike.0))

  pub taken_copied : AllTake old → IsCopied source old new (Ok tt)
  taken_copied takes = whole_copied (taken_stay takes)

-- where nothing is counted, the entries alone
pub rows_copied : (source old new : Table) → IsTable source → IsTable old → AreAlike source old → CountsNothing old → AllTake old → new ≡ with_rows old source.rows
    → IsCopied source old new (Ok tt)
rows_copied source old new is to alike nothing takes moved =
    let log = all_touches 0 1 (leaf_count_of new) (length new.rows) in
    taken_copied source old new new is to alike moved
    (moved ∙ sym (ap (λ (t : Table). after_log t log) moved ∙ ap (λ (t : Table). with_rows t source.rows) (nothing log))) takes

-- arrays of one order, the other way round
runs_turned : {X Y : Type 0} (o p : Option (X × Y)) → IsSomeAnd o (λ x. IsSomeAnd p (λ y. x.0 ≡ y.0)) → IsSomeAnd p (λ y. IsSomeAnd o (λ x. y.0 ≡ x.0))
runs_turned o p are = grind arith

pub runs_back : (one two : Term) → AreRuns one two → AreRuns two one
runs_back one two are = runs_turned (array_of one) (array_of two) are
