-- Runs that are read and stored part by part.
use Rattle.c_lines.proofs.Imports.{◌≡◌, ℕ, suc, ◌+◌, ◌-◌, ◌^◌, ◌<◌, ◌≤◌, Bool, true, List, [], ◌∷◌, ◌++◌, length, map, take, drop, get_or, ℤ, pos, negsuc, ◌≤ℤ◌, Some, None, Result, Ok, Err, refl, sym, ap, subst, ◌∙◌, arith, length-drop, w64, cast_signed, cast_unsigned, range_with_len, option_or, take-add, ints, of_z-to_z, drop-drop, drop-map, get_or-map, get_or-take, length-map, length-take-le, take-append-drop, take-map, take-take, IsDeclared, is_signed, least_in, width_of, LeafType, range_split, hold_at, low_64, lane_inside, told_some, column, column_reads, column_writes, with_column, lane_fault, first_lane_fault, length-with_column, no_column, raised, run_of, stored_count, told_lane, with_run, TakesAll, declared_within, raised_all, run_length, Fits, Table, IsTable, answer_of, kept_of, leaf_count_of, leaf_type_of, table_holds, after_log, after_stores, after_write, Read, Write, after_log-none, after_log-append, after_stores-append, LaneFault, StoreFault, none_refused, kind_count, column_then, run_declared, run_stored, value_more, fault_here, first_taken, nothing_stored, fit_answer, fit_kept, map_same, store_refusal, after_run, told_run, IsFrontStored, IsSet, reads_signed, reads_unsigned, not-true, Option, run_fault, StoreAnswer, without_number}
use Rattle.record_dim.specs.declared.leaf_type.LeafType.TheVariants as kinds
use Rattle.c_lines.specs.Answers as calls

-- what is said of rows one after another, of those behind them too
both_parts : {A : Type 0} (f : ℕ → A) (first done count : ℕ) → map f (range_with_len first done) ++ map f (range_with_len (first + done) count) ≡ map f (range_with_len first (done + count))
both_parts f first done count =
    let rest : done + count - done ≡ count = omega arith in
    ap (λ (n : ℕ). map f (range_with_len first done) ++ map f (range_with_len (first + done) n)) (sym rest) ∙ sym (range_split f first done (done + count) (omega arith))

-- ---- a run that is read

-- values of a type with a sign are their own low bits
pub signed_raised : (kind : LeafType) (lows : List ℤ) → reads_signed kind ≡ true → map (λ (n : ℤ). n) lows ≡ map (raised kind) lows
signed_raised kinds.U64 lows reads = absurd (cc reads)
signed_raised _ lows reads = refl

-- and those of a type without one are some of the widest
pub unsigned_run : (leaf first count : ℕ) (table : Table) → IsTable table → leaf < leaf_count_of table → first + count ≤ length table.rows → reads_unsigned (leaf_type_of table leaf) ≡ true
    → map (raised kinds.U64) (map low_64 (run_of leaf first count table)) ≡ run_of leaf first count table
unsigned_run leaf first count table is leaf_in inside reads =
    let kind = leaf_type_of table leaf in
    let run = run_of leaf first count table in
    raised_all kinds.U64 run (λ k below.
    let value = get_or run k (pos 0) in
    let h = run_declared table leaf first count is leaf_in inside k (omega (arith, below, run_length leaf first count table.rows inside)) in
    (subst (λ (sign : Bool). least_in sign (width_of kind) ≤ℤ value) (not-true (is_signed kind) reads) h.0, omega (arith, ints, (declared_within kind value h).1)))

-- two runs, one behind the other, are one
pub run_more : (leaf first done count : ℕ) (table : Table) → run_of leaf first done table ++ run_of leaf (first + done) count table ≡ run_of leaf first (done + count) table
run_more leaf first done count table =
    let values = column leaf table.rows in
    ap (λ (rest : List ℤ). take done (drop first values) ++ take count rest) (sym (drop-drop done first values)) ∙ sym (take-add done count (drop first values))

pub log_more : (leaf first done count : ℕ) (table : Table) → after_run (first + done) count leaf (after_run first done leaf table) ≡ after_run first (done + count) leaf table
log_more leaf first done count table =
    after_log-append table (column_reads leaf first done) (column_reads leaf (first + done) count) ∙ ap (after_log table) (both_parts (λ at. Read at leaf) first done count)

-- ---- the first fault

or_twice : (a b c : Option LaneFault) → option_or a (option_or b c) ≡ option_or (option_or a b) c
or_twice None b c = refl
or_twice (Some fault) b c = refl

-- so many lanes further on
abbrev moved : ℕ → Option LaneFault → Option LaneFault
moved n None = None
moved n (Some fault) = Some (record { lane = n + fault.lane; fault = fault.fault })

moved_first : (n lane : ℕ) (result : Result ℤ StoreFault) (later other : Option LaneFault) → later ≡ moved n other
    → option_or (lane_fault (n + lane) result) later ≡ moved n (option_or (lane_fault lane result) other)
moved_first n lane (Ok kept) later other same = same
moved_first n lane (Err fault) later other same = refl

fault_moved : (answer : StoreAnswer) (leaf n lane at : ℕ) (values : List ℤ) → at ≡ n + lane → first_lane_fault answer leaf at values ≡ moved n (first_lane_fault answer leaf lane values)
fault_moved answer leaf n lane at [] is = refl
fault_moved answer leaf n lane at (value ∷ values) is =
    ap (λ (l : ℕ). option_or (lane_fault l (answer leaf value)) (first_lane_fault answer leaf (at + 1) values)) is
    ∙ moved_first n lane (answer leaf value) (first_lane_fault answer leaf (at + 1) values) (first_lane_fault answer leaf (lane + 1) values)
    (fault_moved answer leaf n (lane + 1) (at + 1) values (omega (arith, is)))

-- of values behind others
fault_append : (answer : StoreAnswer) (leaf lane : ℕ) (xs ys : List ℤ)
    → first_lane_fault answer leaf lane (xs ++ ys) ≡ option_or (first_lane_fault answer leaf lane xs) (moved (lane + length xs) (first_lane_fault answer leaf 0 ys))
fault_append answer leaf lane [] ys = fault_moved answer leaf (lane + 0) 0 lane ys (omega arith)
fault_append answer leaf lane (x ∷ xs) ys =
    let next : lane + 1 + length xs ≡ lane + suc (length xs) = omega arith in
    ap (option_or (lane_fault lane (answer leaf x)))
    (fault_append answer leaf (lane + 1) xs ys ∙ ap (λ (n : ℕ). option_or (first_lane_fault answer leaf (lane + 1) xs) (moved n (first_lane_fault answer leaf 0 ys))) next)
    ∙ or_twice (lane_fault lane (answer leaf x)) (first_lane_fault answer leaf (lane + 1) xs) (moved (lane + suc (length xs)) (first_lane_fault answer leaf 0 ys))

-- of a run in two parts
pub fault_parts : (leaf count : ℕ) (values : List ℤ) (table : Table) → count ≤ length values
    → run_fault leaf values table ≡ option_or (run_fault leaf (take count values) table) (moved count (run_fault leaf (drop count values) table))
fault_parts leaf count values table inside =
    let all : 0 + length (take count values) ≡ count = omega (arith, length-take-le count values inside) in
    ap (λ (vs : List ℤ). run_fault leaf vs table) (sym (take-append-drop count values)) ∙ fault_append (answer_of table) leaf 0 (take count values) (drop count values)
    ∙ ap (λ (n : ℕ). option_or (run_fault leaf (take count values) table) (moved n (run_fault leaf (drop count values) table))) all

-- ---- a run that is stored

no_run : (leaf first : ℕ) (values : List ℤ) (old : Table) → old ≡ with_run leaf first values 0 old
no_run leaf first values old = sym (ap (λ (rows : List (List ℤ)). after_stores old rows []) (no_column leaf first old.rows) ∙ after_log-none old)

pub nothing_set : (first leaf : ℕ) (values : List ℤ) (old : Table) → length values ≡ 0 → IsSet first leaf values old old (Ok tt)
nothing_set first leaf [] old none = record { told = refl; left = no_run leaf first [] old }
nothing_set first leaf (value ∷ values) old none = absurd (cc none)

pub refused_set : (first leaf row : ℕ) (values : List ℤ) (old new : Table) (fault : LaneFault) → row ≡ first + fault.lane → IsFrontStored leaf first values old new (Err fault)
    → IsSet first leaf values old new (Err (store_refusal row leaf fault.fault))
refused_set first leaf row values old new fault at stored = record {
  told = ap (λ (n : ℕ). Err (store_refusal n leaf fault.fault)) at ∙ sym (ap (told_run first leaf) stored.0);
  left = stored.1 ∙ sym (ap (λ (f : Option LaneFault). with_run leaf first values (stored_count (length values) f) old) stored.0);
}

-- one run behind another
run_then : (leaf first done more : ℕ) (values : List ℤ) (old : Table) → done + more ≤ length values
    → with_run leaf (first + done) (drop done values) more (with_run leaf first values done old) ≡ with_run leaf first values (done + more) old
run_then leaf first done more values old long =
    let at = first + done in
    let keep : ℤ → ℤ = kept_of old leaf in
    let so_far = with_column leaf first (map keep (take done values)) old.rows in
    let both = with_column leaf at (map keep (take more (drop done values))) so_far in
    after_stores-append old so_far both (column_writes leaf first done) (column_writes leaf at more)
    ∙ ap (after_stores old both) (both_parts (λ row. Write row leaf) first done more)
    ∙ ap (λ (rows : List (List ℤ)). after_stores old rows (column_writes leaf first (done + more)))
    (ap (λ (vs : List ℤ). with_column leaf at vs so_far) (sym (take-map keep more (drop done values)) ∙ ap (take more) (sym (drop-map keep done values)))
    ∙ ap (λ (vs : List ℤ). with_column leaf at (take more (drop done (map keep values))) (with_column leaf first vs old.rows)) (sym (take-map keep done values))
    ∙ column_then leaf first at done more (map keep values) old.rows refl (omega (arith, long, length-map values keep))
    ∙ ap (λ (vs : List ℤ). with_column leaf first vs old.rows) (take-map keep (done + more) values))

told_moved : (first leaf n : ℕ) (fault : Option LaneFault) → told_run (first + n) leaf fault ≡ told_run first leaf (moved n fault)
told_moved first leaf n None = refl
told_moved first leaf n (Some fault) = (let at : first + n + fault.lane ≡ first + (n + fault.lane) = omega arith in ap (λ (row : ℕ). Err (store_refusal row leaf fault.fault)) at)

count_moved : (n total : ℕ) (rest : List ℤ) (fault : Option LaneFault) → total ≡ n + length rest → n + stored_count (length rest) fault ≡ stored_count total (moved n fault)
count_moved n total rest None is = sym is
count_moved n total rest (Some fault) is = refl

few_stored : (leaf : ℕ) (values : List ℤ) (table : Table) (fault : Option LaneFault) → run_fault leaf values table ≡ fault → stored_count (length values) fault ≤ length values
few_stored leaf values table None is = omega arith
few_stored leaf values table (Some fault) is = omega (arith, lane_inside (answer_of table) leaf 0 values fault is)

pub set_behind : (first leaf count : ℕ) (values : List ℤ) (old mid new : Table) (answer : calls.Answer (Unit {0})) → count ≤ length values → IsFrontStored leaf first values old mid (Ok count)
    → IsSet (first + count) leaf (drop count values) mid new answer → IsSet first leaf values old new answer
set_behind first leaf count values old mid new answer inside stored behind =
    let rest = drop count values in
    let fault = run_fault leaf rest mid in
    let most = stored_count (length rest) fault in
    let same : fault ≡ run_fault leaf rest old = ap (run_fault leaf rest) stored.1 in
    let total : length values ≡ count + length rest = omega (arith, inside, length-drop count values) in
    let whole : moved count fault ≡ run_fault leaf values old =
    ap (moved count) same ∙ sym (fault_parts leaf count values old inside ∙ ap (λ (f : Option LaneFault). option_or f (moved count (run_fault leaf rest old))) stored.0) in
    record {
      told = behind.told ∙ told_moved first leaf count fault ∙ ap (told_run first leaf) whole;
      left = behind.left ∙ ap (with_run leaf (first + count) rest most) stored.1
          ∙ run_then leaf first count most values old (omega (arith, total, few_stored leaf rest mid fault refl))
          ∙ ap (λ (n : ℕ). with_run leaf first values n old) (count_moved count (length values) rest fault total)
          ∙ ap (λ (f : Option LaneFault). with_run leaf first values (stored_count (length values) f) old) whole;
    }

-- no row is gone
pub still_rows : (leaf first count : ℕ) (values : List ℤ) (old new : Table) → IsFrontStored leaf first values old new (Ok count) → length new.rows ≡ length old.rows
still_rows leaf first count values old new stored =
    ap (λ (t : Table). length t.rows) stored.1 ∙ length-with_column leaf first (map (kept_of old leaf) (take count values)) old.rows

-- values of which the first so many are stored, up to one that is refused
pub front_refused : (leaf first count : ℕ) (values front : List ℤ) (old new : Table) (fault : LaneFault) → count ≤ length values → front ≡ take count values
    → Err fault ≡ told_lane (run_fault leaf front old) → new ≡ with_run leaf first front (stored_count (length front) (run_fault leaf front old)) old
    → IsFrontStored leaf first values old new (Err fault)
front_refused leaf first count values front old new fault inside are named stored =
    let is : run_fault leaf front old ≡ Some fault = told_some (run_fault leaf front old) fault (sym named) in
    let here : run_fault leaf (take count values) old ≡ Some fault = ap (λ (vs : List ℤ). run_fault leaf vs old) (sym are) ∙ is in
    let few : fault.lane ≤ count = omega (arith, lane_inside (answer_of old) leaf 0 (take count values) fault here, length-take-le count values inside) in (
      fault_parts leaf count values old inside ∙ ap (λ (f : Option LaneFault). option_or f (moved count (run_fault leaf (drop count values) old))) here,
      stored ∙ ap (λ (f : Option LaneFault). with_run leaf first front (stored_count (length front) f) old) is
          ∙ ap (λ (vs : List ℤ). after_stores old (with_column leaf first (map (kept_of old leaf) vs) old.rows) (column_writes leaf first fault.lane)) (ap (take fault.lane) are ∙ take-take fault.lane count values few),
    )

-- the first number alone
pub one_stored : (leaf first : ℕ) (numbers : List ℕ) (old new : Table) → 0 < length numbers → first < length old.rows
    → without_number (answer_of old leaf (pos (get_or numbers 0 0))) ≡ Ok tt → new ≡ after_write old first leaf (pos (get_or numbers 0 0)) → IsFrontStored leaf first (map (λ (n : ℕ). pos n) numbers) old new (Ok 1)
one_stored leaf first [] old new some inside taken wrote = absurd (omega (arith, some))
one_stored leaf first (n ∷ numbers) old new some inside taken wrote =
    let values = map (λ (m : ℕ). pos m) (n ∷ numbers) in
    let kept = map (kept_of old leaf) values in (
      first_taken 0 (answer_of old leaf (pos n)) None taken,
      run_stored leaf first 1 old new values
          (value_more leaf first 0 first old old new kept (kept_of old leaf (pos n)) (nothing_stored leaf first old kept) (omega arith) (omega (arith, inside)) (omega arith) refl wrote),
    )

pub one_refused : (leaf first : ℕ) (numbers : List ℕ) (old new : Table) (fault : StoreFault) → 0 < length numbers
    → without_number (answer_of old leaf (pos (get_or numbers 0 0))) ≡ Err fault → new ≡ old → IsFrontStored leaf first (map (λ (n : ℕ). pos n) numbers) old new (Err (record { lane = 0; fault = fault }))
one_refused leaf first [] old new fault some refused same = absurd (omega (arith, some))
one_refused leaf first (n ∷ numbers) old new fault some refused same =
    let values = map (λ (m : ℕ). pos m) (n ∷ numbers) in
    (fault_here (answer_of old) leaf 0 values fault (omega arith) refused, same ∙ no_run leaf first values old)

-- ---- numbers that are all taken, as they are

module _ (leaf first count : ℕ) (numbers : List ℕ) (lows : List ℤ) (old : Table) (is : IsTable old) (leaf_in : leaf < leaf_count_of old) (kind : leaf_type_of old leaf ≡ kinds.U64) (takes : TakesAll old leaf)
    (small : (k : ℕ) → get_or numbers k 0 < 2 ^ 64) (inside : count ≤ length numbers) (are : lows ≡ map low_64 (take count (map (λ (n : ℕ). pos n) numbers))) where
  abbrev part : List ℤ
  part = take count (map (λ (n : ℕ). pos n) numbers)

  many : length part ≡ count
  many = length-take-le count (map (λ (n : ℕ). pos n) numbers) (omega (arith, inside, length-map numbers (λ (n : ℕ). pos n)))

  some : 1 ≤ (hold_at (table_holds old) leaf).width
  some = is.some leaf (omega (arith, leaf_in, kind_count old.fields))

  declared : (k : ℕ) → k < length part → IsDeclared (leaf_type_of old leaf) (get_or part k (pos 0))
  declared k below =
      let at : get_or part k (pos 0) ≡ pos (get_or numbers k 0) =
      get_or-take count (map (λ (n : ℕ). pos n) numbers) k (pos 0) (omega (arith, below, many)) ∙ get_or-map (λ (n : ℕ). pos n) numbers k 0 (pos 0) (omega (arith, below, many, inside)) in
      subst (λ (t : LeafType). IsDeclared t (get_or part k (pos 0))) (sym kind) (subst (IsDeclared kinds.U64) (sym at) (omega (arith, ints), omega (arith, ints, small k)))

  fits : (k : ℕ) → k < length part → Fits (leaf_type_of old leaf) (hold_at (table_holds old) leaf) (get_or part k (pos 0))
  fits k below = takes (get_or part k (pos 0)) (declared k below)

  raised_are : map (raised (leaf_type_of old leaf)) lows ≡ part
  raised_are = ap (map (raised (leaf_type_of old leaf))) are ∙ raised_all (leaf_type_of old leaf) part declared

  long : length lows ≡ count
  long = ap (λ (vs : List ℤ). length vs) are ∙ length-map part low_64 ∙ many

  pub lows_fit : (k : ℕ) → k < length lows → Fits (leaf_type_of old leaf) (hold_at (table_holds old) leaf) (raised (leaf_type_of old leaf) (get_or lows k (pos 0)))
  lows_fit k below =
      subst (Fits (leaf_type_of old leaf) (hold_at (table_holds old) leaf))
      (sym (sym (get_or-map (raised (leaf_type_of old leaf)) lows k (pos 0) (pos 0) below) ∙ ap (λ (vs : List ℤ). get_or vs k (pos 0)) raised_are)) (fits k (omega (arith, below, long, many)))

  -- so none is refused, and each stands where it was put
  pub all_stored : (new : Table) → new ≡ after_stores old (with_column leaf first (map (raised (leaf_type_of old leaf)) lows) old.rows) (column_writes leaf first (length lows))
      → IsFrontStored leaf first (map (λ (n : ℕ). pos n) numbers) old new (Ok count)
  all_stored new put = (
    none_refused (answer_of old) leaf 0 part (λ k below. ap without_number (fit_answer old leaf (get_or part k (pos 0)) some (fits k below))),
    put
        ∙ ap (λ (n : ℕ). after_stores old (with_column leaf first (map (raised (leaf_type_of old leaf)) lows) old.rows) (column_writes leaf first n)) long
        ∙ ap (λ (vs : List ℤ). after_stores old (with_column leaf first vs old.rows) (column_writes leaf first count))
        (raised_are ∙ sym (map_same (kept_of old leaf) part (λ k below. fit_kept old leaf (get_or part k (pos 0)) some (fits k below)))),
  )

-- one whose low bits have no sign is its low bits
pub own_low : (n : ℕ) (low : ℤ) → n < 2 ^ 64 → low ≡ cast_signed w64 n → pos 0 ≤ℤ low → low ≡ pos n
own_low n (pos m) small is some = ap pos (ap (cast_unsigned w64) is ∙ of_z-to_z w64 n small)
own_low n (negsuc m) small is some = absurd (omega (arith, ints, some))
