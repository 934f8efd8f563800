-- After every schedule and what it left the bytes are those of the plain update.
use Rattle.std.specs.Prelude.{◌≡◌, ℕ, ◌<◌, ℤ, List, [], length, map, get_or, Option, Ok, refl}
use Rattle.actor_steps.specs.Imports.{sym, ap, ◌∙◌, subst, arith, length-map, Term, index_at, Leaf, leaves, Owner, Pad, Bit, owner_at, digit, entry, bit_held, IsImage, IsLaidOut, Hold, bit_in, HasShape, hold_at, table_in, kind_at, declared_table, Stays, stays_kept, image_table, Table, owners_of, leaf_types_of, table_holds, leaf_count_of, answer_of, kept_of, answer_stays, Setting, updated_of}
use Rattle.actor_steps.specs.Bytes.{IsMemory}
use Rattle.actor_steps.specs.HeldLaws.{digit_held, IsHeld}
use Rattle.actor_steps.specs.RowLaws.{IsSound, IsWork, row_entries}
use Rattle.actor_steps.specs.MemoryLaws.{zeros-sized, zeros-laid, image-memory, image-laid, image-bits, memory-is, image-held}
use Rattle.actor_steps.specs.LaidLaws.{AreAllTidy, tidy_by, tidy_start}
use Rattle.actor_steps.specs.UpdateLaws.{row_same, row_keeps, updated_at, updated_length}
use Rattle.actor_steps.specs.ScheduleLaws.{held_after, memory_by-end}
use Rattle.actor_steps.specs.Jobs.{job_of, memory_of, fresh_of, team_start}
use Rattle.actor_steps.specs.Schedules.{run_by}
use Rattle.actor_steps.specs.Agree.{IsLawful, memory_by, SchedulesAgree, SchedulesKeepPadding}

pub leaf_count : (table : Table) → leaf_count_of table ≡ length (leaf_types_of table)
leaf_count table = sym (length-map (leaves table.fields) (λ (one : Leaf). one.kind))

module _ (table : Table) (lawful : IsLawful table) where
  -- a row has a number for each leaf
  row_length : (row : ℕ) → row < length table.rows → length (get_or table.rows row []) ≡ length (leaf_types_of table)
  row_length row inside = lawful.is_table.shape.leaf_count row inside ∙ leaf_count table

  shaped : HasShape (length table.rows) (length (leaf_types_of table)) table.rows
  shaped = record { row_count = refl; leaf_count = row_length }

  -- an update of it is sound, and its bytes are what actors begin with
  pub sound_of : (filter : Option (Term ℕ)) (sets : List Setting) → IsSound (job_of table filter sets)
  sound_of filter sets = record {
    laid = lawful.laid;
    paired = lawful.paired;
    shape = shaped;
    stays = λ row leaf row_in leaf_in. grind (arith, stays_kept);
  }

  pub memory_bits : IsImage (owners_of table) table.rows (bit_in (memory_of table))
  memory_bits = image-bits (owners_of table) lawful.laid.whole_bytes table.rows

  pub memory_is : IsMemory (owners_of table) (memory_of table)
  memory_is = image-memory (owners_of table) lawful.laid.whole_bytes table.rows

  pub work_of : (filter : Option (Term ℕ)) (sets : List Setting) → IsWork (job_of table filter sets) (entry table.rows) (memory_of table) (fresh_of table)
  work_of filter sets = record {
    holds = image-held (owners_of table) table.rows (memory_of table) memory_bits;
    sized = memory_is.sized;
    loaded = zeros-sized (owners_of table) lawful.laid.whole_bytes;
  }

  -- its rows are read off them
  pub rows_read : declared_table (leaf_types_of table) (table_in (owners_of table) (length table.rows) (table_holds table) (memory_of table)) ≡ table.rows
  rows_read =
      image_table (owners_of table) (length table.rows) (table_holds table) lawful.laid table.rows (bit_in (memory_of table)) memory_bits table.mode
      (leaf_types_of table) lawful.paired shaped
      (λ row leaf row_in leaf_in. (lawful.is_table.some leaf leaf_in, lawful.is_table.stays row leaf row_in leaf_in))

  module _ (filter : Option (Term ℕ)) (sets : List Setting) (rows : List (List ℤ)) (plain : updated_of table filter sets (length table.rows) ≡ Ok rows) where
    row_count : length rows ≡ length table.rows
    row_count = updated_length (answer_of table) (kept_of table) filter sets table.extents table.rows rows (length table.rows) plain

    -- a fact of each number of a row, that stores keep
    row_stays : (row : ℕ) → row < length table.rows → (length (get_or rows row []) ≡ length (get_or table.rows row []))
        × ((leaf : ℕ) → leaf < length (get_or table.rows row []) → Stays table.mode (kind_at (leaf_types_of table) leaf) (hold_at (table_holds table) leaf) (entry rows row leaf))
    row_stays row inside =
        let long = row_length row inside in
        row_keeps (answer_of table) row (get_or table.rows row []) (index_at table.extents row)
        (λ leaf value. Stays table.mode (kind_at (leaf_types_of table) leaf) (hold_at (table_holds table) leaf) value)
        (λ leaf value left low taken.
        answer_stays table.mode (kind_at (leaf_types_of table) leaf) (hold_at (table_holds table) leaf) value left (lawful.is_table.some leaf (omega (arith, low, long))) taken)
        filter sets (get_or rows row [])
        (updated_at (answer_of table) (kept_of table) filter sets table.extents table.rows rows (length table.rows) row plain inside)
        (λ leaf low. lawful.is_table.stays row leaf inside (omega (arith, low, long)))

    -- with the rows of an update it is lawful
    pub updated_lawful : IsLawful (record table { rows = rows })
    updated_lawful = record {
      is_table = record {
        rows = row_count ∙ lawful.is_table.rows;
        shape = record {
          row_count = refl;
          leaf_count = λ row inside.
              (let low : row < length table.rows = omega (arith, inside, row_count) in (row_stays row low).0 ∙ lawful.is_table.shape.leaf_count row low);
        };
        stays = λ row leaf inside leaf_in.
            (let low : row < length table.rows = omega (arith, inside, row_count) in
            (row_stays row low).1 leaf (omega (arith, leaf_in, row_length row low)));
        some = lawful.is_table.some;
      };
      laid = subst (λ (n : ℕ). IsLaidOut (owners_of table) n (map (λ (h : Hold). h.width) (table_holds table))) (sym row_count) lawful.laid;
      paired = lawful.paired;
    }

    -- memory that holds what each row leaves has the bits of these rows
    pub held_image : (memory : List (List ℕ))
        → IsHeld (owners_of table) (λ row leaf. row_entries (job_of table filter sets) row (entry table.rows) row leaf) memory → IsImage (owners_of table) rows (bit_in memory)
    held_image memory holds b p = holds b p ∙ by_owner (owner_at (owners_of table) b p) refl where
      by_owner : (owner : Owner) → owner_at (owners_of table) b p ≡ owner
          → digit_held (λ row leaf. row_entries (job_of table filter sets) row (entry table.rows) row leaf) owner ≡ bit_held rows owner
      by_owner Pad is = refl
      by_owner (Bit row leaf bit) is =
          (let here = lawful.laid.owned b p row leaf bit is in
          let row_in : row < length table.rows = here.slot_in in
          let leaf_in : leaf < length (table_holds table) = omega (arith, here.cell_in, length-map (table_holds table) (λ (h : Hold). h.width)) in
          let inside : leaf < length (get_or table.rows row []) = omega (arith, leaf_in, lawful.paired, row_length row row_in) in
          ap (λ (v : ℤ). digit v bit) (row_same (job_of table filter sets) (answer_of table) row (get_or rows row [])
          (updated_at (answer_of table) (kept_of table) filter sets table.extents table.rows rows (length table.rows) row plain row_in) leaf inside))

pub schedules_agree : SchedulesAgree
schedules_agree table filter sets cuts rows parted schedule =
    let job = job_of table filter sets in
    let fresh = fresh_of table in
    let sound = sound_of table parted.lawful filter sets in
    let work = work_of table parted.lawful filter sets in
    let good = memory_is table parted.lawful in
    let memory = memory_by table filter sets cuts schedule in
    memory-is (owners_of table) parted.lawful.laid.whole_bytes rows memory (memory_by-end job sound cuts (memory_of table) fresh parted.parts parted.apart good work schedule)
    (held_image table parted.lawful filter sets rows parted.plain memory (held_after job sound cuts (memory_of table) fresh parted.parts parted.apart good work schedule))

pub schedules_keep_padding : SchedulesKeepPadding
schedules_keep_padding table filter sets cuts lawful schedule =
    let job = job_of table filter sets in
    let fresh = fresh_of table in
    let whole = lawful.laid.whole_bytes in
    let start = team_start table filter sets cuts in
    let all : AreAllTidy job fresh (run_by job fresh schedule start) =
    tidy_by job fresh schedule start
    (tidy_start job fresh cuts (length table.rows) (memory_of table) (image-laid (owners_of table) whole table.rows) (zeros-laid (owners_of table) whole)) in
    (all.memory, λ a. (all.actors a).loaded)
