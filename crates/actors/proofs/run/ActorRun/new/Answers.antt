use Rattle.actors.proofs.Lemmas.{◌≡◌, ◌∙◌, ℕ, List, Err, length, get_or, sym, ap, subst, rules, arith, schema_fields, term_of, filter_term, Table, after_log-none, memory_of, fresh_of, NoMemory, table_at, actor_run_of, IsActorRun, without_counts, common_steps, table_same, run_begun, run_kept, IsTeam, stands_counted}
use Rattle.actors.proofs.run.ActorRun.new.Given as given
use Rattle.actors.proofs.run.ActorRun.new.Goals as goal
use Rattle.actors.proofs.run.ActorRun.new.Goals.{After-mode}

abbrev table : (g : given.Over) → After-mode g → Table
table g c = table_at (schema_fields c.in_ok-schema.schema) c.extents.result (term_of c.in_ok-expr.expr) c.mode.result c.in_ok-found.found.items

found : (g : given.Over) (c : After-mode g) → table g c ≡ without_counts c.args.view.now
found g c =
    let read = c.in_ok-plans.ensures.read in
    table_same c.args.view.now c.laws_of_view.ensures.lawful _ _ _ _ _ (c.in_ok-schema.ensures ∙ c.schema.ensures.value ∙ ap (λ (t : Table). t.fields) read)
    (c.extents.ensures.value ∙ ap (λ (t : Table). t.extents) read) (c.in_ok-expr.ensures ∙ c.expr.ensures ∙ ap (λ (t : Table). t.mapping) read)
    (c.mode.ensures ∙ ap (λ (t : Table). t.mode) read) c.in_ok-found.ensures

team : (g : given.Over) (c : After-mode g) → IsTeam c.args.view.now c.args.cuts.now c.in_ok-actors.actors.items
team g c =
    let read = c.in_ok-plans.ensures.read in
    let here = subst (λ (t : Table). IsTeam t c.args.cuts.now c.in_ok-actors.actors.items) read
    (record { shown = c.in_ok-actors.ensures.shown; standing = c.in_ok-actors.ensures.standing; count = c.in_ok-actors.ensures.count }) in
    record {
      shown = here.shown;
      standing = λ sets a other low. stands_counted c.args.view.now _ sets (get_or c.in_ok-actors.actors.items a other) (here.standing sets a other low);
      count = here.count;
    }

pub invariant_of-result : goal.invariant_of-result
invariant_of-result g c =
    let view = c.args.view.now in
    let read = c.in_ok-plans.ensures.read in
    subst (λ (cuts : List ℕ). IsActorRun (table g c) (filter_term c.args.filter) c.args.sets.now cuts c.in_ok-memory.memory.items c.in_ok-scratch.scratch.items c.in_ok-plans.plans.rows.items
    c.in_ok-targets.targets.items c.in_ok-actors.actors.items) (sym c.in_ok-cuts.ensures.items)
    (run_kept view (filter_term c.args.filter) c.args.sets.now c.args.cuts.now c.in_ok-memory.memory.items c.in_ok-actors.actors.items (c.in_ok-memory.ensures ∙ ap memory_of read) (team g c)
    (table g c) c.in_ok-scratch.scratch.items c.in_ok-plans.plans.rows.items c.in_ok-targets.targets.items (found g c) c.laws_of_view.ensures.lawful
    (c.in_ok-scratch.ensures ∙ ap (λ (t : Table). (fresh_of t).loaded) read) c.in_ok-plans.ensures.planned c.in_ok-targets.ensures c.requires.few c.requires.sets c.requires.cuts c.requires.apart
    c.in_ok-plans.ensures.updated)

pub returns-clause-begun : goal.returns-clause-begun
returns-clause-begun g c =
    let d = (goal.at.returns-clause-begun g c).After-mode in
    let view = c.args.view.now in
    let filter = filter_term c.args.filter in
    let sets = c.args.sets.now in
    let memory = c.in_ok-memory.memory.items in
    let actors = c.in_ok-actors.actors.items in
    ap (λ (cuts : List ℕ). actor_run_of (table g d) filter sets cuts memory actors) c.in_ok-cuts.ensures.items
    ∙ run_begun view filter sets c.args.cuts.now memory actors (c.in_ok-memory.ensures ∙ ap memory_of c.in_ok-plans.ensures.read) (team g d) (table g d) (found g d)

pub returns-in_err-found-clause-so_far : goal.returns-in_err-found-clause-so_far
returns-in_err-found-clause-so_far g c = grind (arith, common_steps, after_log-none)

pub returns-in_err-cuts-clause-so_far : goal.returns-in_err-cuts-clause-so_far
returns-in_err-cuts-clause-so_far g c =
    let is : c.from_residual-in_err-cuts.result ≡ Err NoMemory = search (rules, c.from_residual-in_err-cuts.ensures) in
    rw is (length c.args.view.now.rows, omega arith, c.in_ok-plans.ensures.read)
