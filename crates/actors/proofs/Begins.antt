-- A run before its first micro-step.
use Rattle.actors.proofs.Imports.{◌≡◌, ℕ, ◌≤◌, All, List, [], length, map, get_or, Option, None, sym, ap, ◌∙◌, subst, arith, length-map, Fields, Term, indices, Shape, AreSized, table_in, declared_table, StoreMode, Assign, setting_of, updated_of, IsSetOf, Table, owners_of, leaf_types_of, table_holds, IsLawful, memory_is, rows_read, AreCuts, actor_of, job_of, memory_of, fresh_of, zeros-sized, shared_byte, Asks, Standing, table_at, actor_run_of, IsActorRun, ArePlans, without_counts, started_run, IsUpdated}
use Rattle.actors.proofs.Teams.{IsTeam}
use Rattle.actors.proofs.Turns.{stands_alone, set_alone, lawful_alone}

-- the table that copies of the parts of a view show is that of the view
pub table_same : (view : Table) (lawful : IsLawful view) (fields : Fields) (extents : List ℕ) (mapping : Shape) (mode : StoreMode) (found : List (List ℕ)) → fields ≡ view.fields → extents ≡ view.extents
    → mapping ≡ view.mapping → mode ≡ view.mode → found ≡ memory_of view → table_at fields extents mapping mode found ≡ without_counts view
table_same view lawful fields extents mapping mode found fields_are extents_are mapping_is mode_is found_is =
    let rows : declared_table (leaf_types_of view) (table_in (owners_of view) (length (indices view.extents)) (table_holds view) (memory_of view)) ≡ view.rows =
    ap (λ (n : ℕ). declared_table (leaf_types_of view) (table_in (owners_of view) n (table_holds view) (memory_of view))) (sym lawful.is_table.rows) ∙ rows_read view lawful in
    grind arith

module _ (view : Table) (filter : Option (Term ℕ)) (sets : List Assign) (cuts : List ℕ) (memory : List (List ℕ)) (actors : List Standing) (memory_same : memory ≡ memory_of view)
    (team : IsTeam view cuts actors) where
  -- the state is that of the definition
  begun : actor_run_of (without_counts view) filter sets cuts memory actors ≡ started_run view filter (map setting_of sets) cuts
  begun = grind arith

  pub run_begun : (table : Table) → table ≡ without_counts view → actor_run_of table filter sets cuts memory actors ≡ started_run view filter (map setting_of sets) cuts
  run_begun table is = ap (λ (t : Table). actor_run_of t filter sets cuts memory actors) is ∙ begun

  pub run_kept : (table : Table) (scratch : List (List ℕ)) (plans : List Asks) (targets : List ℕ) → table ≡ without_counts view → IsLawful view → scratch ≡ (fresh_of view).loaded
      → ArePlans (job_of view filter (map setting_of sets)) (length view.rows) plans → targets ≡ map (λ set. set.leaf) sets → length sets ≤ 64 → All (IsSetOf view) sets
      → AreCuts 0 cuts (length view.rows) → shared_byte (owners_of view) (actor_of cuts) ≡ None → IsUpdated (updated_of view filter (map setting_of sets) (length view.rows))
      → IsActorRun table filter sets cuts memory scratch plans targets actors
  run_kept table scratch plans targets is lawful scratch_is plans_are targets_are few sets_in parts apart updated =
      subst (λ (t : Table). IsActorRun t filter sets cuts memory scratch plans targets actors) (sym is) (record {
        parted = (updated.0, record { lawful = lawful_alone view lawful; parts = parts; apart = apart; plain = updated.1 });
        sets_in = λ k d low. set_alone view (get_or sets k d) (sets_in k d low);
        few = omega (arith, few, ap length targets_are, length-map sets (λ (set : Assign). set.leaf));
        targets_are = targets_are;
        plans_are = plans_are;
        memory_sized = subst (AreSized (owners_of view)) (sym memory_same) (memory_is view lawful).sized;
        scratch_sized = subst (AreSized (owners_of view)) (sym scratch_is) (zeros-sized (owners_of view) lawful.laid.whole_bytes);
        count = team.count;
        standing = λ a other low. stands_alone view (length targets) (get_or actors a other) (team.standing (length targets) a other low);
        reached = ([], begun);
      })
