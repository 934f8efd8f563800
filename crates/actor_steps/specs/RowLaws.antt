-- What an actor that is alone makes of its rows.
use Rattle.std.specs.Prelude.{◌≡◌, ℕ, ◌/◌, ◌<◌, ◌≤◌, Bool, true, false, ℤ, pos, List, [], ◌∷◌, ◌++◌, length, map, filter, get_or, refl, ◌==◌, ◌||◌, if◌then◌else◌}
use Rattle.actor_steps.specs.Imports.{map-append, Outcome, index_at, sym, ap, ◌∙◌, subst, ⊎_elim, arith, flat_map, range_with_len, cases_lt, eqb-true, eq-eqb, or_left, or_right, get_or_past, Bit, owner_at, entry, digit, IsLaidOut, written_bit, bit_in, AreSized, HasShape, hold_at, declared, kept, kind_at, Setting}
use Rattle.actor_steps.specs.ConfluenceLaws.{Each, each-parts, made_all, loaded_all, made_all-append, loaded_all-append}
use Rattle.actor_steps.specs.Micro.{Place, Job, Micro, Fetch, Registers, row_in, row_as_it_stands, number_in, value_kept_on, stored, loaded, places_of, lets_through, filter_reads, set_reads, leaves_read, is_in, read_leaves, fetches, stores_of, row_steps}
use Rattle.actor_steps.specs.SweepLaws.{is_among, AreBytesOf, sweep, sweep_sized, sweep_loaded, fetch, fetch_memory, fetch_sized}
use Rattle.actor_steps.specs.AmongLaws.{true_or_false, among-lists, among-places, in_range, each-all, each-flat, each-weaker, places-are_bytes}
use Rattle.actor_steps.specs.OutcomeLaws.{outcome_same}
use Rattle.actor_steps.specs.HeldLaws.{digit_held, IsHeld, with_value, widths_of, reading-held, row_in-at, length-row_in, held-written}

-- a layout with its laws, and a table of its shape whose entries stay as they are when they are stored
pub record IsSound (job : Job) : Type 0 where
  pub laid : IsLaidOut job.layout (length job.rows) (widths_of job)
  pub paired : length job.holds ≡ length job.kinds
  pub shape : HasShape (length job.rows) (length job.kinds) job.rows
  pub stays : (row leaf : ℕ) → row < length job.rows → leaf < length job.kinds
      → kept (kind_at job.kinds leaf) (hold_at job.holds leaf) (entry job.rows row leaf) ≡ entry job.rows row leaf

-- memory holds these entries, and both it and the bytes that were loaded have the lengths of the layout
pub record IsWork (job : Job) (entries : ℕ → ℕ → ℤ) (memory : List (List ℕ)) (registers : Registers) : Type 0 where
  pub holds : IsHeld job.layout entries memory
  pub sized : AreSized job.layout memory
  pub loaded : AreSized job.layout registers.loaded

-- entries after the sets of a row, whose values are those of the table
abbrev pub set_entries : Job → ℕ → List Setting → (ℕ → ℕ → ℤ) → ℕ → ℕ → ℤ
set_entries job row [] entries = entries
set_entries job row (set ∷ sets) entries = set_entries job row sets (with_value row set.leaf (value_kept_on job (row_as_it_stands job row) row set) entries)

-- after a row, where the filter lets it through
abbrev pub row_entries : Job → ℕ → (ℕ → ℕ → ℤ) → ℕ → ℕ → ℤ
row_entries job row entries = if lets_through job row then set_entries job row job.sets entries else entries

-- after some rows
abbrev pub rows_entries : Job → List ℕ → (ℕ → ℕ → ℤ) → ℕ → ℕ → ℤ
rows_entries job [] entries = entries
rows_entries job (row ∷ rows) entries = rows_entries job rows (row_entries job row entries)

each-in : (P : ℕ → Type 0) (xs : List ℕ) → ((x : ℕ) → is_in xs x ≡ true → P x) → Each P xs
each-in P [] so = tt
each-in P (x ∷ xs) so = (so x (or_left (x == x) (is_in xs x) (eq-eqb x x refl)), each-in P xs (λ y e. so y (or_right (x == y) (is_in xs y) e)))

each-lists : {X : Type 0} (P : ℕ → Type 0) (f : X → List ℕ) (xs : List X) → Each P (flat_map f xs) → Each (λ x. Each P (f x)) xs
each-lists P f [] all = tt
each-lists P f (x ∷ xs) all = let parts = each-parts P (f x) (flat_map f xs) all in (parts.0, each-lists P f xs parts.1)

-- what a test lets through
is_in-filter : (test : ℕ → Bool) (xs : List ℕ) (x : ℕ) → is_in xs x ≡ true → test x ≡ true → is_in (filter test xs) x ≡ true
is_in-filter test [] x has e = has
is_in-filter test (y ∷ ys) x has e = by_tests (y == x) refl (test y) refl (λ more. is_in-filter test ys x more e) has where
  by_tests : (same : Bool) → (y == x) ≡ same → (meets : Bool) → test y ≡ meets → (is_in ys x ≡ true → is_in (filter test ys) x ≡ true) → (same || is_in ys x) ≡ true
      → is_in (if meets then y ∷ filter test ys else filter test ys) x ≡ true
  by_tests true s true m rest has = ap (λ (t : Bool). t || is_in (filter test ys) x) s
  by_tests true s false m rest has = true_or_false (test y) (ap test (eqb-true y x s) ∙ e) m
  by_tests false s true m rest has = ap (λ (t : Bool). t || is_in (filter test ys) x) s ∙ rest has
  by_tests false s false m rest has = rest has

map-lists : (f : ℕ → List Place) (xs : List ℕ) → flat_map (λ x. map Fetch (f x)) xs ≡ map Fetch (flat_map f xs)
map-lists f [] = refl
map-lists f (x ∷ xs) = ap (λ (w : List Micro). map Fetch (f x) ++ w) (map-lists f xs) ∙ sym (map-append Fetch (f x) (flat_map f xs))

module _ (job : Job) (sound : IsSound job) where
  places_read : ℕ → List Place
  places_read row = flat_map (places_of job.layout row) (read_leaves job row)

  read_are_bytes : (row : ℕ) → AreBytesOf job.layout (places_read row)
  unfolding places_read
  read_are_bytes row = grind (arith, each-flat, each-all, places-are_bytes)

  -- the registers after the bytes of a row are loaded
  fetched : ℕ → List (List ℕ) → Registers → Registers
  fetched row memory registers = loaded_all (stored job) (loaded job) (fetches job row) memory registers

  fetched_bit : (row : ℕ) (entries : ℕ → ℕ → ℤ) (memory : List (List ℕ)) (registers : Registers) (b p leaf k : ℕ) → IsWork job entries memory registers
      → is_in (read_leaves job row) leaf ≡ true → owner_at job.layout b p ≡ Bit row leaf k → bit_in (fetched row memory registers).loaded b p ≡ digit (entries row leaf) k
  unfolding fetched places_read
  fetched_bit row entries memory registers b p leaf k work read owner =
      let among : is_among (places_read row) b (p / 8) ≡ true =
      among-lists (places_of job.layout row) (read_leaves job row) leaf b (p / 8) read (among-places job.layout b p row leaf k sound.laid.whole_bytes owner) in
      ap (λ (steps : List Micro). bit_in (loaded_all (stored job) (loaded job) steps memory registers).loaded b p) (map-lists (places_of job.layout row) (read_leaves job row))
      ∙ fetch job (places_read row) memory registers b p work.loaded (read_are_bytes row)
      ∙ ap (λ (t : Bool). if t then bit_in memory b p else bit_in registers.loaded b p) among
      ∙ work.holds b p ∙ ap (digit_held entries) owner

  fetched_sized : (row : ℕ) (memory : List (List ℕ)) (registers : Registers) → AreSized job.layout registers.loaded → AreSized job.layout (fetched row memory registers).loaded
  unfolding fetched places_read
  fetched_sized row memory registers shape =
      subst (λ (steps : List Micro). AreSized job.layout (loaded_all (stored job) (loaded job) steps memory registers).loaded) (sym (map-lists (places_of job.layout row) (read_leaves job row)))
      (fetch_sized job (places_read row) memory registers shape)

  fetched_memory : (row : ℕ) (memory : List (List ℕ)) (registers : Registers) → made_all (stored job) (loaded job) (fetches job row) memory registers ≡ memory
  unfolding places_read
  fetched_memory row memory registers =
      ap (λ (steps : List Micro). made_all (stored job) (loaded job) steps memory registers) (map-lists (places_of job.layout row) (read_leaves job row))
      ∙ fetch_memory job (places_read row) memory registers

  -- every leaf that is read is read as the table has it
  read_same : (row leaf : ℕ) (entries : ℕ → ℕ → ℤ) (memory : List (List ℕ)) (registers : Registers) → row < length job.rows → IsWork job entries memory registers
      → ((f : ℕ) → entries row f ≡ entry job.rows row f) → is_in (leaves_read job row) leaf ≡ true
      → get_or (row_in job (fetched row memory registers).loaded row) leaf (pos 0) ≡ get_or (row_as_it_stands job row) leaf (pos 0)
  read_same row leaf entries memory registers row_in' work stands read =
      let bytes = (fetched row memory registers).loaded in
      ⊎_elim (λ (inside : leaf < length job.kinds).
      let held_in : leaf < length job.holds = omega (arith, inside, sound.paired) in
      row_in-at job sound.laid sound.paired bytes row leaf row_in' inside
      ∙ ap (declared (kind_at job.kinds leaf)) (reading-held job sound.laid sound.paired bytes row leaf (entry job.rows row leaf) row_in' held_in
      (λ b p k owner. grind (arith, fetched_bit, is_in-filter, range_with_len, in_range)))
      ∙ sound.stays row leaf row_in' inside)
      (λ (outside : length job.kinds ≤ leaf).
      get_or_past (row_in job bytes row) leaf (pos 0) (omega (arith, length-row_in job sound.laid sound.paired bytes row row_in', outside))
      ∙ sym (get_or_past (row_as_it_stands job row) leaf (pos 0) (omega (arith, sound.shape.leaf_count row row_in', outside))))
      (cases_lt leaf (length job.kinds))

  -- so are the values of the right sides
  values_same : (row : ℕ) (entries : ℕ → ℕ → ℤ) (memory : List (List ℕ)) (registers : Registers) → row < length job.rows → IsWork job entries memory registers
      → ((f : ℕ) → entries row f ≡ entry job.rows row f) → lets_through job row ≡ true
      → Each (λ (set : Setting). value_kept_on job (row_in job (fetched row memory registers).loaded row) row set ≡ value_kept_on job (row_as_it_stands job row) row set) job.sets
  values_same row entries memory registers row_in' work stands through =
      let read = row_in job (fetched row memory registers).loaded row in
      let Same : ℕ → Type 0 = λ leaf. get_or (row_as_it_stands job row) leaf (pos 0) ≡ get_or read leaf (pos 0) in
      let all : Each Same (leaves_read job row) = each-in Same (leaves_read job row) (λ leaf e. sym (read_same row leaf entries memory registers row_in' work stands e)) in
      let some : Each Same (filter_reads job row job.filter ++ flat_map (set_reads job row) job.sets) =
      subst (λ (t : Bool). Each Same (filter_reads job row job.filter ++ (if t then flat_map (set_reads job row) job.sets else []))) through all in
      let rest = (each-parts Same (filter_reads job row job.filter) (flat_map (set_reads job row) job.sets) some).1 in
      each-weaker (λ set. Each Same (set_reads job row set)) (λ set. value_kept_on job read row set ≡ value_kept_on job (row_as_it_stands job row) row set) job.sets
      (λ set agree. ap (λ (o : Outcome). job.kept set.leaf (number_in o.answer)) (sym (outcome_same (row_as_it_stands job row) read (index_at job.extents row) set.value agree)))
      (each-lists Same (set_reads job row) job.sets rest)

  -- the sets of a row
  sets_work : (row : ℕ) (sets : List Setting) (entries : ℕ → ℕ → ℤ) (memory : List (List ℕ)) (registers : Registers) → IsWork job entries memory registers
      → Each (λ (set : Setting). value_kept_on job (row_in job registers.loaded row) row set ≡ value_kept_on job (row_as_it_stands job row) row set) sets
      → IsWork job (set_entries job row sets entries) (made_all (stored job) (loaded job) (flat_map (stores_of job row) sets) memory registers)
      (loaded_all (stored job) (loaded job) (flat_map (stores_of job row) sets) memory registers)
  sets_work row [] entries memory registers work same = work
  sets_work row (set ∷ sets) entries memory registers work same =
      let places = places_of job.layout row set.leaf in
      let value = value_kept_on job (row_as_it_stands job row) row set in
      let next = made_all (stored job) (loaded job) (stores_of job row set) memory registers in
      let behind = loaded_all (stored job) (loaded job) (stores_of job row set) memory registers in
      let stands : behind.loaded ≡ registers.loaded = sweep_loaded job row set places memory registers in
      let bytes : AreSized job.layout next = sweep_sized job row set places memory registers work.sized in
      let digits : IsHeld job.layout (with_value row set.leaf value entries) next =
      λ b p.
      sweep job row set places memory registers b p work.sized (places-are_bytes job.layout row set.leaf)
      ∙ ap (λ (v : ℤ). if is_among places b (p / 8) then written_bit (owner_at job.layout b p) row set.leaf v (bit_in memory b p) else bit_in memory b p) same.0
      ∙ held-written job.layout row set.leaf value entries b p (bit_in memory b p) (owner_at job.layout b p) (is_among places b (p / 8)) (work.holds b p)
      (λ k owner. among-places job.layout b p row set.leaf k sound.laid.whole_bytes owner) in
      let after : IsWork job (with_value row set.leaf value entries) next behind =
      record { holds = digits; sized = bytes; loaded = subst (AreSized job.layout) (sym stands) work.loaded } in
      let more = sets_work row sets (with_value row set.leaf value entries) next behind after
      (subst (λ (l : List (List ℕ)). Each (λ (s : Setting). value_kept_on job (row_in job l row) row s ≡ value_kept_on job (row_as_it_stands job row) row s) sets) (sym stands) same.1) in
      grind (arith, flat_map, made_all-append, loaded_all-append)

  -- a row
  pub row_work : (row : ℕ) (entries : ℕ → ℕ → ℤ) (memory : List (List ℕ)) (registers : Registers) → row < length job.rows → IsWork job entries memory registers
      → ((f : ℕ) → entries row f ≡ entry job.rows row f)
      → IsWork job (row_entries job row entries) (made_all (stored job) (loaded job) (row_steps job row) memory registers) (loaded_all (stored job) (loaded job) (row_steps job row) memory registers)
  unfolding fetched
  row_work row entries memory registers row_in' work stands = by_test (lets_through job row) refl where
    by_test : (test : Bool) → lets_through job row ≡ test
        → IsWork job (if test then set_entries job row job.sets entries else entries)
        (made_all (stored job) (loaded job) (fetches job row ++ (if test then flat_map (stores_of job row) job.sets else [])) memory registers)
        (loaded_all (stored job) (loaded job) (fetches job row ++ (if test then flat_map (stores_of job row) job.sets else [])) memory registers)
    by_test test through =
        let rest = if test then flat_map (stores_of job row) job.sets else [] in
        let behind = fetched row memory registers in
        let start : IsWork job entries memory behind = record { holds = work.holds; sized = work.sized; loaded = fetched_sized row memory registers work.loaded } in
        let made = made_all-append (stored job) (loaded job) (fetches job row) rest memory registers
        ∙ ap (λ (m : List (List ℕ)). made_all (stored job) (loaded job) rest m behind) (fetched_memory row memory registers) in
        let after = loaded_all-append (stored job) (loaded job) (fetches job row) rest memory registers
        ∙ ap (λ (m : List (List ℕ)). loaded_all (stored job) (loaded job) rest m behind) (fetched_memory row memory registers) in
        subst (λ (m : List (List ℕ)). IsWork job (if test then set_entries job row job.sets entries else entries) m
        (loaded_all (stored job) (loaded job) (fetches job row ++ rest) memory registers)) (sym made)
        (subst (λ (r : Registers). IsWork job (if test then set_entries job row job.sets entries else entries) (made_all (stored job) (loaded job) rest memory behind) r) (sym after)
        (stores test through start)) where
          stores : (test : Bool) → lets_through job row ≡ test → IsWork job entries memory (fetched row memory registers)
              → IsWork job (if test then set_entries job row job.sets entries else entries)
              (made_all (stored job) (loaded job) (if test then flat_map (stores_of job row) job.sets else []) memory (fetched row memory registers))
              (loaded_all (stored job) (loaded job) (if test then flat_map (stores_of job row) job.sets else []) memory (fetched row memory registers))
          stores true through start = sets_work row job.sets entries memory (fetched row memory registers) start (values_same row entries memory registers row_in' work stands through)
          stores false through start = start
