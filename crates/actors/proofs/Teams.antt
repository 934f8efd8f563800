-- The actors of a run before their first micro-step.
use Rattle.actors.proofs.Imports.{drop_all, cuts_end, All-push, ◌≡◌, ℕ, zero, suc, ◌+◌, ◌-◌, ◌<◌, ◌≤◌, false, List, [], ◌∷◌, ◌++◌, length, map, get_or, drop, refl, sym, ap, ◌∙◌, subst, arith, append_assoc, length-append, map-append, drop_more, Table, IsLawful, Actor, AreCuts, parts_from, team_of, fresh_of, zeros-sized, Job, Micro, Registers, steps_of, origin, left_in, rows_left, Standing, Cursor, AreStanding, IsFresh, IsStanding, actor_shown, cursor_steps}

-- all rows are left
all_left : (job : Job) (row n : ℕ) → left_in job row n 0 origin ≡ steps_of job row n
all_left job row zero = refl
all_left job row (suc more) = rows_left job row more

module _ (table : Table) (row end : ℕ) (actor : Standing) (fresh : IsFresh table row end actor) where
  abbrev start : Cursor
  start = record { row = row; end = end; done = 0; from = origin; half = false }

  fresh_shown : (job : Job) → actor_shown job actor ≡ record { rest = steps_of job row (end - row); registers = fresh_of table }
  fresh_shown job =
      let shown : Cursor → List (List ℕ) → ℕ → Actor Micro Registers = λ cursor loaded byte. record { rest = cursor_steps job cursor; registers = record { loaded = loaded; byte = byte } } in
      ap (λ (cursor : Cursor). shown cursor actor.bytes.loaded.items actor.bytes.byte) fresh.cursor
      ∙ ap (λ (loaded : List (List ℕ)). shown start loaded actor.bytes.byte) fresh.loaded
      ∙ ap (λ (byte : ℕ). shown start (fresh_of table).loaded byte) fresh.byte
      ∙ ap (λ (rest : List Micro). record { rest = rest; registers = fresh_of table }) (all_left job row (end - row))

  fresh_stands : IsLawful table → end ≤ length table.rows → (sets : ℕ) → IsStanding table sets actor
  fresh_stands lawful inside sets = grind (arith, zeros-sized)

module _ (table : Table) (cuts : List ℕ) where
  -- the actors so far, and those to come
  pub record AreTeam (row n : ℕ) (actors : List Standing) : Type 0 where
    pub shown : (job : Job) → map (actor_shown job) actors ++ team_of job (parts_from row (drop n cuts) (length table.rows)) (fresh_of table)
        ≡ team_of job (parts_from 0 cuts (length table.rows)) (fresh_of table)
    pub parts : AreCuts row (drop n cuts) (length table.rows)
    pub standing : (sets : ℕ) → AreStanding table sets actors
    pub count : length actors ≡ n

  pub one_more : (lawful : IsLawful table) (row n cut : ℕ) (actors : List Standing) (actor : Standing) → n < length cuts → cut ≡ get_or cuts n 0 → IsFresh table row cut actor → AreTeam row n actors
      → AreTeam cut (n + 1) (actors ++ actor ∷ [])
  one_more lawful row n cut actors actor low is fresh so_far =
      let next : drop n cuts ≡ cut ∷ drop (n + 1) cuts = drop_more cuts n 0 low ∙ ap (λ (c : ℕ). c ∷ drop (n + 1) cuts) (sym is) in
      let parts = subst (λ (cs : List ℕ). AreCuts row cs (length table.rows)) next so_far.parts in
      record {
        shown = λ job.
            (let rest = team_of job (parts_from cut (drop (n + 1) cuts) (length table.rows)) (fresh_of table) in
            ap (λ (w : List (Actor Micro Registers)). w ++ rest) (map-append (actor_shown job) actors (actor ∷ []))
            ∙ append_assoc (map (actor_shown job) actors) (actor_shown job actor ∷ []) rest
            ∙ ap (λ (w : Actor Micro Registers). map (actor_shown job) actors ++ (w ∷ rest)) (fresh_shown table row cut actor fresh job)
            ∙ ap (λ (cs : List ℕ). map (actor_shown job) actors ++ team_of job (parts_from row cs (length table.rows)) (fresh_of table)) (sym next) ∙ so_far.shown job);
        parts = parts.1;
        standing = λ sets. All-push (IsStanding table sets) actors actor (so_far.standing sets) (fresh_stands table row cut actor fresh lawful (cuts_end cut (drop (n + 1) cuts) (length table.rows) parts.1) sets);
        count = length-append actors (actor ∷ []) ∙ ap (λ (w : ℕ). w + 1) so_far.count;
      }

  -- the last actor has the rows up to the end
  pub record IsTeam (actors : List Standing) : Type 0 where
    pub shown : (job : Job) → map (actor_shown job) actors ≡ team_of job (parts_from 0 cuts (length table.rows)) (fresh_of table)
    pub standing : (sets : ℕ) → AreStanding table sets actors
    pub count : length actors ≡ length cuts + 1

  pub all_team : (lawful : IsLawful table) (row n end : ℕ) (actors : List Standing) (actor : Standing) → n ≡ length cuts → end ≡ length table.rows → IsFresh table row end actor → AreTeam row n actors → IsTeam (actors ++ actor ∷ [])
  all_team lawful row n end actors actor last whole fresh so_far =
      let none : drop n cuts ≡ [] = ap (λ (w : ℕ). drop w cuts) last ∙ drop_all (length cuts) cuts (omega arith) in
      record {
        shown = λ job.
            map-append (actor_shown job) actors (actor ∷ [])
            ∙ ap (λ (w : Actor Micro Registers). map (actor_shown job) actors ++ (w ∷ []))
            (fresh_shown table row end actor fresh job ∙ ap (λ (w : ℕ). record { rest = steps_of job row (w - row); registers = fresh_of table }) whole)
            ∙ ap (λ (cs : List ℕ). map (actor_shown job) actors ++ team_of job (parts_from row cs (length table.rows)) (fresh_of table)) (sym none) ∙ so_far.shown job;
        standing = λ sets. All-push (IsStanding table sets) actors actor (so_far.standing sets) (fresh_stands table row end actor fresh lawful (omega (arith, whole)) sets);
        count = length-append actors (actor ∷ []) ∙ ap (λ (w : ℕ). w + 1) (so_far.count ∙ last);
      }
