-- Rows that are read, stored and copied, one leaf or one row more.
use Rattle.layout_copy.proofs.Imports.{◌≡◌, Bool, true, false, ℕ, zero, suc, ◌+◌, ◌*◌, ◌<◌, ◌≤◌, ℤ, pos, List, [], ◌∷◌, ◌++◌, length, take, drop, get_or, set, Option, Some, None, is_ok, refl, sym, ap, ◌∙◌, arith, length-map, get_or-map, at_drop_more, take_more, get_or-set_same, length-set, take-set-le, Table, answer_of, kept_of, leaf_count_of, after_log, after_stores, after_read, StoreAnswer, kept_row, kept_rows, half, half_more, after_log-none, after_log-append, logs_more, accesses_more, Access, Read, Write, row_accesses, all_accesses, refusing, refused_at, spot_or, if◌then◌else◌}

-- the values before a leaf were read, and each was taken
pub record AreRead (answer : StoreAnswer) (row values : List ℤ) (leaf : ℕ) : Type 0 where
  pub count : length values ≡ length row
  pub front : take leaf values ≡ take leaf row
  pub rest : refusing answer 0 row ≡ refusing answer leaf (drop leaf row)

pub leaf_read : (answer : StoreAnswer) (row values : List ℤ) (leaf : ℕ) (value : ℤ) → leaf < length values → value ≡ get_or row leaf (pos 0) → is_ok (answer leaf value) ≡ true → AreRead answer row values leaf
    → AreRead answer row (set values leaf value) (leaf + 1)
leaf_read answer row values leaf value small is taken so_far =
    let inside : leaf < length row = omega (arith, small, so_far.count) in
    let long : leaf < length (set values leaf value) = omega (arith, small, length-set values leaf value) in
    record {
      count = length-set values leaf value ∙ so_far.count;
      front = rw (take_more (set values leaf value) leaf (pos 0) long, take-set-le leaf values leaf value (omega arith), get_or-set_same values leaf value (pos 0) small, take_more row leaf (pos 0) inside, so_far.front, is) refl;
      rest = so_far.rest ∙ at_drop_more (refusing answer leaf) row leaf (pos 0) inside ∙ (rw (← is, taken) refl);
    }

pub leaf_refused : (answer : StoreAnswer) (row values : List ℤ) (leaf : ℕ) (value : ℤ) → leaf < length values → value ≡ get_or row leaf (pos 0) → is_ok (answer leaf value) ≡ false → AreRead answer row values leaf → Some leaf ≡ refusing answer 0 row
leaf_refused answer row values leaf value small is refused so_far = grind (arith, (at_drop_more (refusing answer leaf) row leaf (pos 0) (omega (arith, small, so_far.count))))

-- a read more of a row, and the reads of a row more
pub read_more : (old now new : Table) (row leaf : ℕ) → now ≡ after_log old (row_accesses Read leaf row) → new ≡ after_read now row leaf → new ≡ after_log old (row_accesses Read (leaf + 1) row)
read_more old now new row leaf so_far read = grind (arith, accesses_more, after_log-append)

pub reads_after : (old now new : Table) (leaves row : ℕ) (log : List Access) → now ≡ after_log old (all_accesses Read leaves row) → new ≡ after_log now log → new ≡ after_log old (all_accesses Read leaves row ++ log)
reads_after old now new leaves row log so_far read = read ∙ ap (λ (s : Table). after_log s log) so_far ∙ after_log-append old (all_accesses Read leaves row) log

pub row_read : (old now new : Table) (leaves row : ℕ) → now ≡ after_log old (all_accesses Read leaves row) → new ≡ after_log now (row_accesses Read leaves row) → new ≡ after_log old (all_accesses Read leaves (row + 1))
row_read old now new leaves row so_far read = rw (logs_more (row_accesses Read leaves) row) (reads_after old now new leaves row (row_accesses Read leaves row) so_far read)

-- where no leaf refuses its value, each takes it
none_refuses : (test : Bool) (rest : Option ℕ) (leaf : ℕ) → (if test then rest else Some leaf) ≡ None → (test ≡ true) × (rest ≡ None)
none_refuses test rest leaf e = grind arith

pub each_taken : (answer : StoreAnswer) (first leaf : ℕ) (values : List ℤ) → leaf < length values → refusing answer first values ≡ None → is_ok (answer (first + leaf) (get_or values leaf (pos 0))) ≡ true
each_taken answer first leaf [] inside none = absurd (omega (arith, inside))
each_taken answer first zero (value ∷ values) inside none = grind (arith, none_refuses, is_ok)
each_taken answer first (suc leaf) (value ∷ values) inside none =
    let less : leaf < length values = omega (arith, inside) in
    let next : first + suc leaf ≡ first + 1 + leaf = omega arith in
    rw next (each_taken answer (first + 1) leaf values less (none_refuses (is_ok (answer first value)) (refusing answer (first + 1) values) first none).1)

-- the rows before this one were copied, and each was held
pub record AreCopied (source old now : Table) (row : ℕ) : Type 0 where
  pub same : now ≡ after_stores old (half (kept_rows (kept_of old) source.rows) old.rows row) (all_accesses Write (leaf_count_of old) row)
  pub rest : refused_at (answer_of old) 0 source.rows ≡ refused_at (answer_of old) row (drop row source.rows)

pub none_copied : (source old : Table) → AreCopied source old old 0
none_copied source old = record { same = sym (after_log-none old); rest = refl }

row_at : (source old now : Table) (row : ℕ) → row < length source.rows → AreCopied source old now row
    → refused_at (answer_of old) 0 source.rows ≡ spot_or row (refusing (answer_of now) 0 (get_or source.rows row [])) (refused_at (answer_of old) (row + 1) (drop (row + 1) source.rows))
row_at source old now row small so_far =
    so_far.rest ∙ at_drop_more (refused_at (answer_of old) row) source.rows row [] small
    ∙ ap (λ (s : Table). spot_or row (refusing (answer_of s) 0 (get_or source.rows row [])) (refused_at (answer_of old) (row + 1) (drop (row + 1) source.rows))) (sym so_far.same)

pub row_copied : (source old now new : Table) (row : ℕ) → row < length source.rows → length source.rows ≡ length old.rows → AreCopied source old now row → refusing (answer_of now) 0 (get_or source.rows row []) ≡ None
    → new ≡ after_stores now (set now.rows row (kept_row (kept_of now) (get_or source.rows row []))) (row_accesses Write (leaf_count_of now) row) → AreCopied source old new (row + 1)
row_copied source old now new row small same so_far held stored =
    let leaves = leaf_count_of old in
    let kept = kept_rows (kept_of old) source.rows in
    let long : length kept ≡ length source.rows = length-map source.rows (kept_row (kept_of old)) in
    let table = λ (values : List ℤ). set (half kept old.rows row) row values in
    record {
      same = stored ∙ ap (λ (s : Table). after_stores s (set s.rows row (kept_row (kept_of s) (get_or source.rows row []))) (row_accesses Write (leaf_count_of s) row)) so_far.same
          ∙ after_log-append (record old { rows = table (kept_row (kept_of old) (get_or source.rows row [])) }) (all_accesses Write leaves row) (row_accesses Write leaves row)
          ∙ ap (λ (log : List Access). after_stores old (table (kept_row (kept_of old) (get_or source.rows row []))) log) (sym (logs_more (row_accesses Write leaves) row))
          ∙ ap (λ (values : List ℤ). after_stores old (table values) (all_accesses Write leaves (row + 1))) (sym (get_or-map (kept_row (kept_of old)) source.rows row [] [] small))
          ∙ ap (λ (t : List (List ℤ)). after_stores old t (all_accesses Write leaves (row + 1))) (half_more kept old.rows row [] (omega arith) (long ∙ same));
      rest = row_at source old now row small so_far
          ∙ ap (λ (o : Option ℕ). spot_or row o (refused_at (answer_of old) (row + 1) (drop (row + 1) source.rows))) held;
    }

pub row_refused : (source old now : Table) (row leaf : ℕ) → row < length source.rows → AreCopied source old now row → refusing (answer_of now) 0 (get_or source.rows row []) ≡ Some leaf → refused_at (answer_of old) 0 source.rows ≡ Some (record { row = row; leaf = leaf })
row_refused source old now row leaf small so_far refused =
    row_at source old now row small so_far
    ∙ ap (λ (o : Option ℕ). spot_or row o (refused_at (answer_of old) (row + 1) (drop (row + 1) source.rows))) refused

-- two steps more for each leaf of a row
pub steps_more : (before now new row leaves : ℕ) → now ≤ before + 2 * (row * leaves) → new ≤ now + 2 * leaves → new ≤ before + 2 * ((row + 1) * leaves)
steps_more before now new row leaves so_far more = grind arith
