-- After every schedule the memory is that of the plain update.
use Rattle.std.specs.Prelude.{◌≡◌, ℕ, zero, suc, ◌+◌, ◌/◌, ◌%◌, ◌<◌, ◌≤◌, Bool, true, false, ℤ, List, [], ◌∷◌, length, map, filter, get_or, refl, None, ◌==◌, ◌&&◌, ◌||◌, if◌then◌else◌}
use Rattle.actor_steps.specs.Imports.{cond_both, sym, ap, ◌∙◌, subst, ⊎_elim, arith, flat_map, list_any, range_with_len, bit_at, cases_lt, cases_eq, and_parts, eqb-true, get_or_past, get_or-map, length-map, Owner, Pad, Bit, owner_at, entry, digit, bit_in, Setting}
use Rattle.actor_steps.specs.Confluence.{Actor, State, scheduled}
use Rattle.actor_steps.specs.ConfluenceLaws.{Each, Alone, made_all, loaded_all, made_all-append, loaded_all-append, ended, IsMerged, merged-schedule, ended-schedule}
use Rattle.actor_steps.specs.Micro.{Place, byte_at, Job, Micro, Fetch, Load, Store, Registers, row_in, row_as_it_stands, value_kept_on, with_bits_of, stored, loaded, all_bytes, is_bit_of, owners_of_byte, places_of, lets_through, read_leaves, fetches, changes, stores_of, row_steps, steps_of}
use Rattle.actor_steps.specs.Bytes.{IsByte, IsMemory}
use Rattle.actor_steps.specs.BytesOfLaws.{with_byte-sized, with_byte-bytes, byte_at-other, byte_at-same}
use Rattle.actor_steps.specs.SweepLaws.{is_place, place_is, is_among, with_bits_of-lt}
use Rattle.actor_steps.specs.AmongLaws.{among-all, true_or_false, each-append, each-all, each-flat, each-weaker, each-filter, each-map, all_are_bytes, has_byte, byte_owner}
use Rattle.actor_steps.specs.HeldLaws.{digit_held, IsHeld, with_value}
use Rattle.actor_steps.specs.RowLaws.{IsSound, set_entries, row_entries, rows_entries, IsWork, row_work}
use Rattle.actor_steps.specs.Cuts.{AreCuts, actor_of, parts_from, team_of}
use Rattle.actor_steps.specs.CutsLaws.{part_of, first_below, actor_is}
use Rattle.actor_steps.specs.Shared.{is_shared, shared_byte}
use Rattle.actor_steps.specs.SharedLaws.{actor_in, none-shared, one_actor, byte-actor}

-- the byte that a micro-step loads or stores
abbrev pub place_of : Micro → Place
place_of (Fetch place) = place
place_of (Load place) = place
place_of (Store place row set) = place

-- a fact of each place, at one of them
each-among : (P : Place → Type 0) (places : List Place) (b i : ℕ) → Each P places → is_among places b i ≡ true → P (record { blob = b; byte = i })
each-among P [] b i all e = true_or_false false e refl
each-among P (place ∷ places) b i all e = by_test (is_place b i place) refl e (λ rest. each-among P places b i all.1 rest) where
  by_test : (t : Bool) → is_place b i place ≡ t → (t || is_among places b i) ≡ true → (is_among places b i ≡ true → P (record { blob = b; byte = i })) → P (record { blob = b; byte = i })
  by_test true here some rest = subst P (place_is b i place here) all.0
  by_test false here some rest = rest some

-- entries of another row stand
set-other : (job : Job) (row : ℕ) (sets : List Setting) (entries : ℕ → ℕ → ℤ) (r f : ℕ) → (r ≡ row → ⊥) → set_entries job row sets entries r f ≡ entries r f
set-other job row [] entries r f other = refl
set-other job row (set ∷ sets) entries r f other =
    let value = value_kept_on job (row_as_it_stands job row) row set in
    set-other job row sets (with_value row set.leaf value entries) r f other
    ∙ cond_both (r == row && f == set.leaf) value (entries r f) (λ (v : ℤ). v ≡ entries r f) (λ e. absurd (other (eqb-true r row (and_parts (r == row) (f == set.leaf) e).0))) (λ e. refl)

-- entries of the row depend on those of the row alone
set-same : (job : Job) (row : ℕ) (sets : List Setting) (one two : ℕ → ℕ → ℤ) → ((f : ℕ) → one row f ≡ two row f) → (f : ℕ) → set_entries job row sets one row f ≡ set_entries job row sets two row f
set-same job row [] one two same f = same f
set-same job row (set ∷ sets) one two same f =
    let value = value_kept_on job (row_as_it_stands job row) row set in
    set-same job row sets (with_value row set.leaf value one) (with_value row set.leaf value two)
    (λ f. ap (λ (v : ℤ). if row == row && f == set.leaf then value else v) (same f)) f

row-other : (job : Job) (row : ℕ) (entries : ℕ → ℕ → ℤ) (r f : ℕ) → (r ≡ row → ⊥) → row_entries job row entries r f ≡ entries r f
row-other job row entries r f other =
    cond_both (lets_through job row) (set_entries job row job.sets entries) entries (λ (g : ℕ → ℕ → ℤ). g r f ≡ entries r f) (λ e. set-other job row job.sets entries r f other) (λ e. refl)

row-same : (job : Job) (row : ℕ) (one two : ℕ → ℕ → ℤ) → ((f : ℕ) → one row f ≡ two row f) → (f : ℕ) → row_entries job row one row f ≡ row_entries job row two row f
row-same job row one two same f = by_test (lets_through job row) where
  by_test : (t : Bool) → (if t then set_entries job row job.sets one else one) row f ≡ (if t then set_entries job row job.sets two else two) row f
  by_test true = set-same job row job.sets one two same f
  by_test false = same f

-- rows before those of the list, and rows of it
rows-before : (job : Job) (first n : ℕ) (entries : ℕ → ℕ → ℤ) (r f : ℕ) → r < first → rows_entries job (range_with_len first n) entries r f ≡ entries r f
rows-before job first zero entries r f low = refl
rows-before job first (suc n) entries r f low = grind (arith, row-other, (rows-before job (first + 1) n (row_entries job first entries) r f (omega (arith, low))))

rows-inside : (job : Job) (first n : ℕ) (entries : ℕ → ℕ → ℤ) (r f : ℕ) → first ≤ r → r < first + n → rows_entries job (range_with_len first n) entries r f ≡ row_entries job r entries r f
rows-inside job first zero entries r f low high = absurd (omega (arith, low, high))
rows-inside job first (suc n) entries r f low high =
    ⊎_elim (λ (same : r ≡ first).
    rows-before job (first + 1) n (row_entries job first entries) r f (omega (arith, same)) ∙ ap (λ (w : ℕ). row_entries job w entries r f) (sym same))
    (λ (other : r ≡ first → ⊥).
    rows-inside job (first + 1) n (row_entries job first entries) r f
    (⊎_elim (λ (l : first < r). omega (arith, l)) (λ (l : r ≤ first). absurd (other (omega (arith, l, low)))) (cases_lt first r)) (omega (arith, high))
    ∙ row-same job r (row_entries job first entries) entries (λ g. row-other job first entries r g other) f)
    (cases_eq r first)

module _ (job : Job) (sound : IsSound job) where
  -- all rows of an actor that is alone
  pub solo : (first n : ℕ) (entries : ℕ → ℕ → ℤ) (memory : List (List ℕ)) (registers : Registers) → IsWork job entries memory registers → first + n ≤ length job.rows
      → ((r f : ℕ) → first ≤ r → entries r f ≡ entry job.rows r f)
      → IsWork job (rows_entries job (range_with_len first n) entries) (made_all (stored job) (loaded job) (steps_of job first n) memory registers)
      (loaded_all (stored job) (loaded job) (steps_of job first n) memory registers)
  solo first zero entries memory registers work inside stands = work
  solo first (suc n) entries memory registers work inside stands =
      let next = made_all (stored job) (loaded job) (row_steps job first) memory registers in
      let behind = loaded_all (stored job) (loaded job) (row_steps job first) memory registers in
      let here = row_work job sound first entries memory registers (omega (arith, inside)) work (λ f. stands first f (omega arith)) in
      let more = solo (first + 1) n (row_entries job first entries) next behind here (omega (arith, inside))
      (λ r f low. row-other job first entries r f (λ e. (let bad : ⊥ = omega (arith, low, e) in bad)) ∙ stands r f (omega (arith, low))) in
      grind (arith, range_with_len, made_all-append, loaded_all-append)

  module _ (cuts : List ℕ) (apart : shared_byte job.layout (actor_of cuts) ≡ None) where
    abbrev pub actor : ℕ → ℕ
    actor = actor_of cuts

    abbrev pub owner_of : Place → ℕ
    owner_of place = actor_in actor (owners_of_byte job.layout place)

    abbrev pub IsOwn : ℕ → Micro → Type 0
    IsOwn a step = IsByte job.layout (place_of step) × (owner_of (place_of step) ≡ a)

    -- the bytes of a leaf in a row are the row's actor's
    places-own : (row leaf : ℕ) → Each (λ place. IsByte job.layout place × (owner_of place ≡ actor row)) (places_of job.layout row leaf)
    places-own row leaf =
        let test : Place → Bool = λ place. list_any (is_bit_of row leaf) (owners_of_byte job.layout place) in
        let shared : Place → Bool = λ place. is_shared actor (owners_of_byte job.layout place) in
        each-weaker (λ place. (IsByte job.layout place × (shared place ≡ false)) × (test place ≡ true)) (λ place. IsByte job.layout place × (owner_of place ≡ actor row))
        (filter test (all_bytes job.layout))
        (λ place facts. (facts.0.0, byte-actor actor row leaf (owners_of_byte job.layout place) facts.0.1 facts.1))
        (each-filter (λ place. IsByte job.layout place × (shared place ≡ false)) test (all_bytes job.layout)
        (each-both (IsByte job.layout) (λ place. shared place ≡ false) (all_bytes job.layout) (all_are_bytes job.layout) (none-shared shared (all_bytes job.layout) apart))) where
          each-both : (P Q : Place → Type 0) (xs : List Place) → Each P xs → Each Q xs → Each (λ x. P x × Q x) xs
          each-both P Q [] one two = tt
          each-both P Q (x ∷ xs) one two = ((one.0, two.0), each-both P Q xs one.1 two.1)

    row-own : (row : ℕ) → Each (IsOwn (actor row)) (row_steps job row)
    row-own row =
        each-append (IsOwn (actor row)) (fetches job row) (if lets_through job row then flat_map (stores_of job row) job.sets else [])
        (each-flat (IsOwn (actor row)) (λ leaf. map Fetch (places_of job.layout row leaf)) (read_leaves job row)
        (each-all (λ leaf. Each (IsOwn (actor row)) (map Fetch (places_of job.layout row leaf))) (read_leaves job row)
        (λ leaf. each-map (IsOwn (actor row)) Fetch (places_of job.layout row leaf) (places-own row leaf))))
        (cond_both (lets_through job row) (flat_map (stores_of job row) job.sets) [] (Each (IsOwn (actor row)))
        (λ e. each-flat (IsOwn (actor row)) (stores_of job row) job.sets
        (each-all (λ set. Each (IsOwn (actor row)) (stores_of job row set)) job.sets (λ set. one_leaf set (places_of job.layout row set.leaf) (places-own row set.leaf))))
        (λ e. tt)) where
          one_leaf : (set : Setting) (places : List Place) → Each (λ place. IsByte job.layout place × (owner_of place ≡ actor row)) places
              → Each (IsOwn (actor row)) (flat_map (changes row set) places)
          one_leaf set [] own = tt
          one_leaf set (place ∷ places) own = (own.0, (own.0, one_leaf set places own.1))

    steps-own : (first n a : ℕ) → ((r : ℕ) → first ≤ r → r < first + n → actor r ≡ a) → Each (IsOwn a) (steps_of job first n)
    steps-own first zero a rows = tt
    steps-own first (suc n) a rows =
        each-append (IsOwn a) (row_steps job first) (steps_of job (first + 1) n)
        (subst (λ (x : ℕ). Each (IsOwn x) (row_steps job first)) (rows first (omega arith) (omega arith)) (row-own first))
        (steps-own (first + 1) n a (λ r low high. rows r (omega (arith, low)) (omega (arith, high))))

    module _ (fresh : Registers) (are : AreCuts 0 cuts (length job.rows)) (memory : List (List ℕ)) (good : IsMemory job.layout memory) (work : IsWork job (entry job.rows) memory fresh) where
      abbrev pub parts : List (ℕ × ℕ)
      parts = parts_from 0 cuts (length job.rows)

      abbrev first : ℕ → ℕ
      first a = (get_or parts a (0, 0)).0

      abbrev size : ℕ → ℕ
      size a = (get_or parts a (0, 0)).1

      abbrev pub idle : Actor Micro Registers
      idle = record { rest = []; registers = fresh }

      abbrev pub team : List (Actor Micro Registers)
      team = team_of job parts fresh

      abbrev pub start : State (List (List ℕ)) Micro Registers
      start = record { memory = memory; actors = team }

      abbrev pub alone : ℕ → Alone (List (List ℕ)) Micro Registers
      alone a = record { memory = memory; rest = (get_or team a idle).rest; registers = (get_or team a idle).registers }

      team-at : (a : ℕ) → a < length parts → get_or team a idle ≡ record { rest = steps_of job (first a) (size a); registers = fresh }
      team-at a low = get_or-map (λ (part : ℕ × ℕ). let x : Actor Micro Registers = record { rest = steps_of job part.0 part.1; registers = fresh } in x) parts a (0, 0) idle low

      team-past : (a : ℕ) → length parts ≤ a → get_or team a idle ≡ idle
      team-past a high = grind (arith, get_or_past, length-map)

      -- the laws of a micro-step
      pub elsewhere : (s : Micro) (m : List (List ℕ)) (r : Registers) (p : Place) → (p ≡ place_of s → ⊥) → byte_at (stored job s m r) p ≡ byte_at m p
      elsewhere s m r p other = grind (arith, byte_at-other)

      pub same_loaded : (s : Micro) (m n : List (List ℕ)) (r : Registers) → byte_at m (place_of s) ≡ byte_at n (place_of s) → loaded job s m r ≡ loaded job s n r
      same_loaded s m n r e = grind arith

      pub same_stored : (s : Micro) (m n : List (List ℕ)) (r : Registers) (p : Place) → IsByte job.layout (place_of s) → IsMemory job.layout m → IsMemory job.layout n
          → byte_at m (place_of s) ≡ byte_at n (place_of s) → byte_at m p ≡ byte_at n p → byte_at (stored job s m r) p ≡ byte_at (stored job s n r) p
      same_stored s m n r p is one two e f = grind (arith, byte_at-same, byte_at-other, cases_eq)

      pub good_after : (s : Micro) (m : List (List ℕ)) (r : Registers) → IsMemory job.layout m → IsMemory job.layout (stored job s m r)
      good_after (Fetch place) m r good = good
      good_after (Load place) m r good = good
      good_after (Store place row set) m r good =
          let byte = with_bits_of job.layout place row set.leaf (value_kept_on job (row_in job r.loaded row) row set) r.byte in
          record {
            sized = with_byte-sized job.layout m place byte good.sized;
            bytes = grind (arith, with_byte-bytes, with_bits_of-lt);
          }

      all-own : (a : ℕ) → Each (IsOwn a) (alone a).rest
      all-own a =
          ⊎_elim (λ (low : a < length parts).
          subst (λ (x : Actor Micro Registers). Each (IsOwn a) x.rest) (sym (team-at a low))
          (steps-own (first a) (size a) a (λ r from below. actor_is 0 cuts (length job.rows) a r are (record { low = low; from = from; below = below }))))
          (λ (high : length parts ≤ a). subst (λ (x : Actor Micro Registers). Each (IsOwn a) x.rest) (sym (team-past a high)) tt)
          (cases_lt a (length parts))

      pub merged : IsMerged byte_at place_of (stored job) (loaded job) idle refl (IsMemory job.layout) (λ s. IsByte job.layout (place_of s)) owner_of good_after elsewhere
          same_loaded same_stored alone start
      merged = record { rest = λ a. refl; registers = λ a. refl; bytes = λ p. refl; good = good; goods = λ a. good; own = all-own }

      -- the entries that the plain update leaves
      abbrev pub updated : ℕ → ℕ → ℤ
      updated r f = row_entries job r (entry job.rows) r f

      -- the actor of a byte that holds a bit of a row
      row-actor : (b p r f k : ℕ) → owner_at job.layout b p ≡ Bit r f k → owner_of (record { blob = b; byte = p / 8 }) ≡ actor r
      row-actor b p r f k e =
          let place : Place = record { blob = b; byte = p / 8 } in
          let shared : Place → Bool = λ place. is_shared actor (owners_of_byte job.layout place) in
          let has = has_byte job.layout b p r f k sound.laid.whole_bytes e in
          let none : shared place ≡ false =
          each-among (λ place. shared place ≡ false) (all_bytes job.layout) b (p / 8) (none-shared shared (all_bytes job.layout) apart) (among-all job.layout b (p / 8) has.blob_in has.byte_in) in
          one_actor actor (owners_of_byte job.layout place) (p % 8) r f k none has.low (byte_owner job.layout b p Pad ∙ e)

      -- what an actor leaves at its bytes
      solo-bit : (b p a : ℕ) → a ≡ owner_of (record { blob = b; byte = p / 8 })
          → bit_in (ended (stored job) (loaded job) (alone a)) b p ≡ digit_held updated (owner_at job.layout b p)
      solo-bit b p a is =
          ⊎_elim (λ (low : a < length parts).
          let done = solo (first a) (size a) (entry job.rows) memory fresh work (first_below 0 cuts (length job.rows) a are low).1 (λ r f from. refl) in
          ap (λ (x : Actor Micro Registers). bit_in (made_all (stored job) (loaded job) x.rest memory x.registers) b p) (team-at a low)
          ∙ done.holds b p ∙ by_owner (owner_at job.layout b p) refl)
          (λ (high : length parts ≤ a).
          ap (λ (x : Actor Micro Registers). bit_in (made_all (stored job) (loaded job) x.rest memory x.registers) b p) (team-past a high)
          ∙ work.holds b p ∙ by_none high (owner_at job.layout b p) refl)
          (cases_lt a (length parts)) where
            by_owner : (owner : Owner) → owner_at job.layout b p ≡ owner → digit_held (rows_entries job (range_with_len (first a) (size a)) (entry job.rows)) owner ≡ digit_held updated owner
            by_owner Pad e = refl
            by_owner (Bit r f k) e =
                let same : actor r ≡ a = sym (is ∙ row-actor b p r f k e) in
                let part = part_of 0 cuts (length job.rows) r are (omega arith) (sound.laid.owned b p r f k e).slot_in in
                let from : first a ≤ r = subst (λ (w : ℕ). first w ≤ r) same part.from in
                let below : r < first a + size a = subst (λ (w : ℕ). r < first w + size w) same part.below in
                ap (λ (v : ℤ). digit v k) (rows-inside job (first a) (size a) (entry job.rows) r f from below)

            by_none : length parts ≤ a → (owner : Owner) → owner_at job.layout b p ≡ owner → digit_held (entry job.rows) owner ≡ digit_held updated owner
            by_none high Pad e = refl
            by_none high (Bit r f k) e =
                let part = part_of 0 cuts (length job.rows) r are (omega arith) (sound.laid.owned b p r f k e).slot_in in
                let same : actor r ≡ a = sym (is ∙ row-actor b p r f k e) in absurd (omega (arith, part.low, high, same))

      -- where no micro-step is left after a schedule, memory holds what the plain update leaves
      pub after_every_schedule : (schedule : List ℕ) → ((a : ℕ) → (get_or (scheduled (stored job) (loaded job) idle schedule start).actors a idle).rest ≡ [])
          → IsHeld job.layout updated (scheduled (stored job) (loaded job) idle schedule start).memory
      after_every_schedule schedule done b p =
          let place : Place = record { blob = b; byte = p / 8 } in
          let same = ended-schedule byte_at place_of (stored job) (loaded job) idle refl (IsMemory job.layout) (λ s. IsByte job.layout (place_of s)) owner_of good_after elsewhere
          same_loaded same_stored schedule alone start merged done place in
          ap (λ (w : ℕ). bit_at w (p % 8)) same ∙ solo-bit b p (owner_of place) refl

      -- and it is memory of the layout, after any schedule
      pub memory_after : (schedule : List ℕ) → IsMemory job.layout (scheduled (stored job) (loaded job) idle schedule start).memory
      memory_after schedule =
          (merged-schedule byte_at place_of (stored job) (loaded job) idle refl (IsMemory job.layout) (λ s. IsByte job.layout (place_of s)) owner_of good_after elsewhere same_loaded
          same_stored schedule alone start merged).good
