-- The values of a row, one leaf more.
use Rattle.views.proofs.Imports.{◌≡◌, true, ℕ, ◌+◌, ◌<◌, ◌≤◌, ℤ, pos, List, [], length, take, get_or, set, Result, Ok, is_ok, refl, sym, ap, ◌∙◌, arith, OnOk, enumerate_from, take_more, take_all, length-map, length-set, set-set, set-get_or, get_or-set_same, take-set-le, get_or-map, length-enumerate_from, get_or-enumerate_from, with_entry, Table, answer_of, kept_of, leaf_count_of, after_log, after_stores, after_read, after_write, kept_row, without_number, told_ok, after_log-none, after_log-append, accesses_more, half, half_more, half_whole, Read, Write, row_accesses, StoreFault}

-- the values before a leaf were read
pub record AreRead (old now : Table) (row : ℕ) (values : List ℤ) (leaf : ℕ) : Type 0 where
  pub same : now ≡ after_log old (row_accesses Read leaf row)
  pub count : length values ≡ length (get_or old.rows row [])
  pub front : take leaf values ≡ take leaf (get_or old.rows row [])

pub none_read : (table : Table) (row : ℕ) (values : List ℤ) → length values ≡ length (get_or table.rows row []) → AreRead table table row values 0
none_read table row values count = record { same = sym (after_log-none table); count = count; front = refl }

pub leaf_read : (old now new : Table) (row leaf : ℕ) (values : List ℤ) (value : ℤ) → leaf < length values → value ≡ get_or (get_or now.rows row []) leaf (pos 0) → new ≡ after_read now row leaf
    → AreRead old now row values leaf → AreRead old new row (set values leaf value) (leaf + 1)
leaf_read old now new row leaf values value small is read so_far =
    let numbers = get_or old.rows row [] in
    let there : value ≡ get_or numbers leaf (pos 0) = is ∙ ap (λ (t : Table). get_or (get_or t.rows row []) leaf (pos 0)) so_far.same in
    let inside : leaf < length numbers = omega (arith, so_far.count) in
    let long : leaf < length (set values leaf value) = omega (arith, length-set values leaf value) in
    record {
      same = grind (arith, after_log-append, accesses_more);
      count = length-set values leaf value ∙ so_far.count;
      front = rw (take_more (set values leaf value) leaf (pos 0) long, take-set-le leaf values leaf value (omega arith), get_or-set_same values leaf value (pos 0) small, take_more numbers leaf (pos 0) inside, so_far.front, there) refl;
    }

pub row_read : (old now : Table) (row : ℕ) (values : List ℤ) (leaf : ℕ) → length values ≤ leaf → AreRead old now row values leaf → values ≡ get_or old.rows row []
row_read old now row values leaf over so_far = sym (take_all leaf values over) ∙ so_far.front ∙ take_all leaf (get_or old.rows row []) (omega (arith, so_far.count))

-- the values before a leaf were stored
abbrev pub AreStored : Table → Table → ℕ → List ℤ → ℕ → Type 0
AreStored old now row values leaf =
    now ≡ after_stores old (set old.rows row (half (kept_row (kept_of old) values) (get_or old.rows row []) leaf)) (row_accesses Write leaf row)

pub none_stored : (table : Table) (row : ℕ) (values : List ℤ) → AreStored table table row values 0
none_stored table row values = rw (set-get_or table.rows row []) (sym (after_log-none table))

kept_at : (values : List ℤ) (leaf : ℕ) (table : Table) → leaf < length values → get_or (kept_row (kept_of table) values) leaf (pos 0) ≡ kept_of table leaf (get_or values leaf (pos 0))
kept_at values leaf table small =
    let keep : ℕ × ℤ → ℤ = λ v. kept_of table v.0 v.1 in
    let number : 0 + leaf ≡ leaf = omega arith in
    let within : leaf < length (enumerate_from 0 values) = omega (arith, length-enumerate_from 0 values) in
    get_or-map keep (enumerate_from 0 values) leaf (0, pos 0) (pos 0) within ∙ ap keep (get_or-enumerate_from 0 values leaf (0, pos 0) small)
    ∙ ap (λ (n : ℕ). kept_of table n (get_or values leaf (pos 0))) number

length-kept_row : (table : Table) (values : List ℤ) → length (kept_row (kept_of table) values) ≡ length values
length-kept_row table values = length-map (enumerate_from 0 values) (λ (v : ℕ × ℤ). kept_of table v.0 v.1) ∙ length-enumerate_from 0 values

pub leaf_stored : (old now new : Table) (row leaf : ℕ) (values : List ℤ) (answer : Result Unit StoreFault) → row < length old.rows → leaf < length values → length values ≡ length (get_or old.rows row [])
    → is_ok (answer_of old leaf (get_or values leaf (pos 0))) ≡ true → answer ≡ without_number (answer_of now leaf (get_or values leaf (pos 0))) → OnOk answer (new ≡ after_write now row leaf (get_or values leaf (pos 0)))
    → AreStored old now row values leaf → AreStored old new row values (leaf + 1)
leaf_stored old now new row leaf values answer inside small same taken gives stored so_far =
    let before = get_or old.rows row [] in
    let value = get_or values leaf (pos 0) in
    let kept = kept_row (kept_of old) values in
    let number = kept_of old leaf value in
    let part = half kept before leaf in
    let ok : answer ≡ Ok tt = gives ∙ ap (λ (s : Table). without_number (answer_of s leaf value)) so_far ∙ told_ok (answer_of old leaf value) taken in
    let done = rw ok at stored in
    let long : length kept ≡ length values = length-kept_row old values in
    let written : with_entry (set old.rows row part) row leaf number ≡ set old.rows row (half kept before (leaf + 1)) =
    grind (arith, get_or-set_same, set-set, kept_at, half_more) in grind (arith, after_log-append, accesses_more)

pub row_stored : (old now : Table) (row leaf : ℕ) (values : List ℤ) → leaf ≡ leaf_count_of old → length values ≤ leaf → length values ≡ length (get_or old.rows row []) → AreStored old now row values leaf
    → now ≡ after_stores old (set old.rows row (kept_row (kept_of old) values)) (row_accesses Write (leaf_count_of old) row)
row_stored old now row leaf values all over same so_far =
    let kept = kept_row (kept_of old) values in
    let long : length kept ≡ length values = length-kept_row old values in grind (arith, half_whole)
