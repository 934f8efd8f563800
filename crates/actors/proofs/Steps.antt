-- The next micro-step of a cursor.
use Rattle.actors.proofs.Imports.{◌≡◌, ℕ, ◌+◌, ◌-◌, ◌<◌, ◌≤◌, Bool, true, false, List, ◌∷◌, ◌++◌, length, refl, sym, ap, ◌∙◌, arith, range_with_len, get_or-append, length-map, get_or-map, get_or-append_right, length-map-range_with_len, get_or-map-range_with_len, Owner, Setting, Place, Job, Fetch, Load, Store, NextByte, IsRowOf, task_at, byte_behind, Reads, Sets, place_steps, left_in, Cursor, store_of, cursor_steps, set_at}

module _ (job : Job) {layout : List (List Owner)} {leaves : ℕ} {sets : List ℕ} {asked : List Bool} {through : Bool} {row : ℕ} (is : IsRowOf job layout leaves sets asked through row) where
  -- the tasks are the leaves, and then the sets
  read_at : (task : ℕ) → task < leaves → task_at job task ≡ Reads task
  read_at task low = grind (arith, get_or-append, range_with_len, length-map-range_with_len, get_or-map-range_with_len)

  many_sets : length job.sets ≡ length sets
  many_sets = sym (length-map job.sets (λ (s : Setting). s.leaf)) ∙ ap length is.sets_are

  set_is : (task n : ℕ) → n ≡ leaves → leaves ≤ task → task < leaves + length sets → task_at job task ≡ Sets (set_at job (task - n))
  set_is task n same low high = grind (arith, range_with_len, length-map-range_with_len, many_sets, get_or-append_right, get_or-map)

  -- a store comes next where its byte is loaded
  pub store_next : (cursor : Cursor) (n : ℕ) (place : Place) → cursor.row ≡ row → cursor.half ≡ true → n ≡ leaves → leaves ≤ cursor.done → cursor.done < leaves + length sets → place ≡ byte_behind cursor.from
      → cursor_steps job cursor ≡ Store cursor.from cursor.row (set_at job (cursor.done - n)) ∷ left_in job cursor.row (cursor.end - cursor.row) cursor.done place
  store_next cursor n place here half same low high next = grind (arith, set_is)

  module _ (cursor : Cursor) (next : NextByte) (half : cursor.half ≡ false)
      (found : left_in job cursor.row (cursor.end - cursor.row) cursor.done cursor.from
      ≡ place_steps next.row (task_at job next.task) next.place ++ left_in job next.row (cursor.end - next.row) next.task (byte_behind next.place)) where
    -- a byte that is loaded for values
    pub fetch_next : (place : Place) → next.task < leaves → place ≡ byte_behind next.place
        → cursor_steps job cursor ≡ Fetch next.place ∷ cursor_steps job (record { row = next.row; end = cursor.end; done = next.task; from = place; half = cursor.half })
    fetch_next place low next_is = grind (arith, read_at)

    -- a byte that is loaded to be changed
    pub load_next : leaves ≤ next.task → next.task < leaves + length sets
        → cursor_steps job cursor ≡ Load next.place ∷ (store_of next.row next.place (task_at job next.task) ++ left_in job next.row (cursor.end - next.row) next.task (byte_behind next.place))
    load_next low high =
        let set = set_is next.task leaves refl low high in
        let rest = left_in job next.row (cursor.end - next.row) next.task (byte_behind next.place) in grind arith
