-- What an answer to a store keeps.
use Rattle.std.specs.Prelude.{◌≡◌, ℕ, suc, ◌+◌, ◌<◌, ◌≤◌, Bool, true, ℤ, pos, List, [], ◌∷◌, length, map, get_or, Result, Ok, Err, is_ok, refl, if◌then◌else◌}
use Rattle.views.specs.Imports.{sym, ap, ◌∙◌, subst, arith, enumerate_from, cases_lt, length-map, get_or_past, LeafType, leaves, kinds_of, Fields, Hold, entry, length-leaf_cells, leaf_cells, length-holds, hold_at, value_bits, kept, kept_again, wide_kept, StoreMode, Strict, Wrap}
use Rattle.views.specs.StrictLaws.{stored_fits, fitting_stored}
use Rattle.views.specs.Stores.{Keeping, Stays, kind_at, store_answer, without_number, kept_or, kept_row, kept_rows}
use Rattle.views.specs.Tables.{Table, IsTable, IsWide, kept_of, leaf_types_of, leaf_type_of, table_holds}
use Rattle.views.specs.declared.fault.StoreFault.{StoreFault}
use Rattle.views.specs.declared.fault.StoreFault.TheVariants.{Range, Narrow}

-- ---- an answer that is no refusal, and one that is

pub told_ok : (answer : Result ℤ StoreFault) → is_ok answer ≡ true → without_number answer ≡ Ok tt
told_ok answer taken = grind arith

pub told_same : (answer : Result ℤ StoreFault) → is_ok (without_number answer) ≡ is_ok answer
told_same answer = grind arith

pub told_err : (answer : Result ℤ StoreFault) (fault : StoreFault) → without_number answer ≡ Err fault → answer ≡ Err fault
told_err answer fault refused = grind arith

-- one that is none keeps what a store leaves
pub told_kept : (value : ℤ) (answer : Result ℤ StoreFault) → without_number answer ≡ Ok tt → answer ≡ Ok (kept_or value answer)
told_kept value answer taken = grind arith

-- ---- a value that stays

abbrev as_it_is : ℤ → Result ℤ StoreFault
as_it_is value = Ok value

one_kept : (value left : ℤ) → as_it_is value ≡ as_it_is left → value ≡ left
one_kept value left same = cc same

keeps : (declared held : Bool) (value left : ℤ) → (if declared then (if held then Ok value else Err Narrow) else Err Range) ≡ Ok left → value ≡ left
keeps declared held value left taken = grind (arith, one_kept)

-- a strict view keeps what it takes as it is
strict_same : (kind : LeafType) (hold : Hold) (value left : ℤ) → store_answer Strict kind hold value ≡ Ok left → value ≡ left
strict_same kind hold value left = grind arith

-- what a view holds it takes as it is
pub stays_answer : (mode : StoreMode) (kind : LeafType) (hold : Hold) (value : ℤ) → Stays mode kind hold value → store_answer mode kind hold value ≡ Ok value
stays_answer mode kind hold value stays = grind (arith, fitting_stored)

-- and what it keeps it may hold
pub answer_stays : (mode : StoreMode) (kind : LeafType) (hold : Hold) (value left : ℤ) → 1 ≤ hold.width → store_answer mode kind hold value ≡ Ok left → Stays mode kind hold left
answer_stays mode kind hold value left some taken = grind (arith, strict_same, stored_fits, one_kept, kept_again)

-- ---- what a strict table keeps

or_same : (declared held : Bool) (value : ℤ) → kept_or value (if declared then (if held then Ok value else Err Narrow) else Err Range) ≡ value
or_same declared held value = grind arith

-- each value as it is
pub strict_kept : (table : Table) → table.mode ≡ Strict → (leaf : ℕ) (value : ℤ) → kept_of table leaf value ≡ value
strict_kept table strict leaf value = grind (arith, or_same)

-- ---- what tables keep of rows

kept_from : (keep : Keeping) (leaf : ℕ) (values : List ℤ) → ((k : ℕ) → k < length values → keep (leaf + k) (get_or values k (pos 0)) ≡ get_or values k (pos 0))
    → map (λ (v : ℕ × ℤ). keep v.0 v.1) (enumerate_from leaf values) ≡ values
kept_from keep leaf [] each = refl
kept_from keep leaf (value ∷ values) each =
    let first : leaf + 0 ≡ leaf = omega arith in
    let here : keep leaf value ≡ value = subst (λ (n : ℕ). keep n value ≡ value) first (each 0 (omega arith)) in
    ap (λ (v : ℤ). v ∷ map (λ (w : ℕ × ℤ). keep w.0 w.1) (enumerate_from (leaf + 1) values)) here
    ∙ ap (λ (rest : List ℤ). value ∷ rest)
    (kept_from keep (leaf + 1) values (λ k l.
    (let next : leaf + suc k ≡ (leaf + 1) + k = omega arith in
    subst (λ (n : ℕ). keep n (get_or values k (pos 0)) ≡ get_or values k (pos 0)) next (each (suc k) (omega (arith, l))))))

-- a row of which each value is kept as it is
pub row_kept : (keep : Keeping) (values : List ℤ) → ((leaf : ℕ) → leaf < length values → keep leaf (get_or values leaf (pos 0)) ≡ get_or values leaf (pos 0)) → kept_row keep values ≡ values
row_kept keep values each = kept_from keep 0 values (λ k l. (let same : 0 + k ≡ k = omega arith in subst (λ (n : ℕ). keep n (get_or values k (pos 0)) ≡ get_or values k (pos 0)) (sym same) (each k l)))

-- and rows
pub rows_kept : (keep : Keeping) (rows : List (List ℤ))
    → ((row leaf : ℕ) → row < length rows → leaf < length (get_or rows row []) → keep leaf (entry rows row leaf) ≡ entry rows row leaf) → kept_rows keep rows ≡ rows
rows_kept keep [] each = refl
rows_kept keep (row ∷ rows) each =
    ap (λ (r : List ℤ). r ∷ kept_rows keep rows) (row_kept keep row (λ leaf l. each 0 leaf (omega arith) l))
    ∙ ap (λ (rest : List (List ℤ)). row ∷ rest) (rows_kept keep rows (λ r leaf l m. each (suc r) leaf (omega (arith, l)) m))

-- each table keeps its own
pub own_rows : (table : Table) → IsTable table → kept_rows (kept_of table) table.rows ≡ table.rows
own_rows table is = grind (arith, rows_kept, length-map, leaves, stays_answer)

-- ---- two tables that keep alike

-- as many holds as leaves, whatever the mapping
pub hold_count : (table : Table) → length (table_holds table) ≡ length (leaf_types_of table)
hold_count table = length-holds table.mapping table.fields (leaf_cells (leaf_types_of table)) ∙ length-leaf_cells (leaf_types_of table)

-- where there is room for all bits of each type, what is kept is told by the type alone; past the last leaf both keep alike
wide_alike : (one other : List Hold) (kinds : List LeafType) → length one ≡ length kinds → length other ≡ length kinds
    → ((leaf : ℕ) → leaf < length kinds → value_bits (kind_at kinds leaf) ≤ (hold_at one leaf).width)
    → ((leaf : ℕ) → leaf < length kinds → value_bits (kind_at kinds leaf) ≤ (hold_at other leaf).width)
    → (leaf : ℕ) (value : ℤ) → kept (kind_at kinds leaf) (hold_at one leaf) value ≡ kept (kind_at kinds leaf) (hold_at other leaf) value
wide_alike one other kinds ones others wide room leaf value = grind (arith, wide_kept, get_or_past, cases_lt)

answers_alike : (mode other : StoreMode) (kind : LeafType) (one two : Hold) (value : ℤ) → mode ≡ other → (mode ≡ Wrap → kept kind one value ≡ kept kind two value)
    → kept_or value (store_answer mode kind one value) ≡ kept_or value (store_answer other kind two value)
answers_alike mode other kind one two value same alike = grind (arith, or_same)

-- two tables of one record and one mode, in which each leaf has room, keep the same of each value
pub kept_alike : (one other : Table) → one.fields ≡ other.fields → one.mode ≡ other.mode → IsWide one → IsWide other → kept_of one ≡ kept_of other
kept_alike one other trees modes wide room = λ i leaf value. alike leaf value i
  where
    same_kinds : leaf_types_of one ≡ leaf_types_of other
    same_kinds = ap (λ (f : Fields). kinds_of f) trees

    alike : (leaf : ℕ) (value : ℤ) → kept_of one leaf value ≡ kept_of other leaf value
    alike leaf value =
        answers_alike one.mode other.mode (leaf_type_of one leaf) (hold_at (table_holds one) leaf) (hold_at (table_holds other) leaf) value modes (λ wrap.
        grind (arith, wide_alike, hold_count))
        ∙ ap (λ (kinds : List LeafType). kept_or value (store_answer other.mode (kind_at kinds leaf) (hold_at (table_holds other) leaf) value)) same_kinds
