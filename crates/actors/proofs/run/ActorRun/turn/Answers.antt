use Rattle.actors.proofs.Lemmas.{All-set, IsStanding, ◌≡◌, ◌∙◌, ◌<◌, Bool, ℕ, List, [], ◌∷◌, length, map, get_or, set, sym, ap, subst, arith, get_or_default, length-set, schema_fields, term_of, AreSized, filter_term, setting_of, Table, owners_of, State, job_of, fresh_of, Micro, Registers, table_at, actor_run_of, ArePlans, Run, without_counts, after_turns, rest_in, has_any, IsTurn, turned_state, made_any, not_made, stands_alone, reached_more}
use Rattle.actors.proofs.run.ActorRun.turn.Goals as goal
use Rattle.actors.proofs.run.ActorRun.turn.Goals.{After-turn_of}

table : After-turn_of → Table
table c = let r = c.self.inside in table_at (schema_fields r.schema) r.extents (term_of r.expr) r.mode r.found.items

-- the view is as it was found
found : (c : After-turn_of) → without_counts c.args.view.now ≡ table c
unfolding table
found c = c.requires.view ∙ sym (ap (λ (run : Run). run.found) c.self.view_is)

low : (c : After-turn_of) → c.args.actor < length c.self.inside.actors.items
low c = let cuts = ap (λ (run : Run). length run.cuts) c.self.view_is in omega (arith, c.requires.actor, c.self.invariant.count, cuts)

old_is : (c : After-turn_of) → c.index_mut.result.now ≡ get_or c.self.inside.actors.items c.args.actor c.index_mut.result.now
old_is c = c.index_mut.ensures.value ∙ get_or_default c.self.inside.actors.items c.args.actor _ c.index_mut.result.now (low c)

turn : (c : After-turn_of) → IsTurn (job_of (table c) (filter_term c.self.inside.filter) (map setting_of c.self.inside.sets.now)) c.self.inside.memory.items c.index_mut.result.now c.turn_of.result
    c.turn_of.new.memory.items c.turn_of.new.actor
unfolding table
turn c =
    let r = c.self.inside in
    let filter = filter_term r.filter in
    let sets = map setting_of r.sets.now in
    let plans = subst (λ (t : Table). ArePlans (job_of t filter sets) (length t.rows) r.plans.rows.items) (sym (found c)) c.self.invariant.plans_are in
    subst (λ (t : Table). IsTurn (job_of t filter sets) r.memory.items c.index_mut.result.now c.turn_of.result c.turn_of.new.memory.items c.turn_of.new.actor) (found c)
    (c.turn_of.ensures.turn filter plans)

-- the run behind the turn
turned : (c : After-turn_of) → actor_run_of (table c) (filter_term c.self.inside.filter) c.self.inside.sets.now c.self.inside.cuts.items c.turn_of.new.memory.items
    (set c.self.inside.actors.items c.args.actor c.turn_of.new.actor)
    ≡ after_turns (actor_run_of (table c) (filter_term c.self.inside.filter) c.self.inside.sets.now c.self.inside.cuts.items c.self.inside.memory.items c.self.inside.actors.items) (c.args.actor ∷ [])
unfolding table turn
turned c =
    let r = c.self.inside in
    let filter = filter_term r.filter in
    let run = actor_run_of (table c) filter r.sets.now r.cuts.items r.memory.items r.actors.items in
    let job = job_of (table c) filter (map setting_of r.sets.now) in
    ap (λ (s : State (List (List ℕ)) Micro Registers). record run { state = s })
    (sym (turned_state job (fresh_of (table c)) r.memory.items c.turn_of.new.memory.items r.actors.items c.args.actor c.index_mut.result.now c.turn_of.new.actor (low c) (old_is c) c.turn_of.result (turn c)))

pub invariant_of-self : goal.invariant_of-self
unfolding table turned found
invariant_of-self c =
    let d = (goal.at.invariant_of-self c).After-turn_of in
    let r = c.self.inside in
    let inv = c.self.invariant in
    let view = c.args.view.now in
    let new = c.turn_of.new.actor in
    record {
      parted = inv.parted;
      sets_in = inv.sets_in;
      few = inv.few;
      targets_are = inv.targets_are;
      plans_are = inv.plans_are;
      memory_sized = subst (λ (t : Table). AreSized (owners_of t) c.turn_of.new.memory.items) (found d) c.turn_of.ensures.memory_sized;
      scratch_sized = subst (λ (t : Table). AreSized (owners_of t) c.turn_of.new.scratch.items) (found d) c.turn_of.ensures.scratch_sized;
      count = length-set r.actors.items c.args.actor new ∙ inv.count;
      standing = All-set (IsStanding (table d) (length r.targets.items)) r.actors.items c.args.actor new (grind (arith, stands_alone)) inv.standing;
      reached =
          reached_more (actor_run_of (table d) (filter_term r.filter) r.sets.now r.cuts.items r.memory.items r.actors.items) c.args.actor
          (actor_run_of (table d) (filter_term r.filter) r.sets.now r.cuts.items c.turn_of.new.memory.items (set r.actors.items c.args.actor new)) inv.reached (turned d);
    }

pub returns : goal.returns
unfolding table turned turn
returns c =
    let d = (goal.at.returns c).After-turn_of in
    let r = c.self.inside in
    let filter = filter_term r.filter in
    let run = actor_run_of (table d) filter r.sets.now r.cuts.items r.memory.items r.actors.items in
    let job = job_of (table d) filter (map setting_of r.sets.now) in
    let old = c.index_mut.result.now in
    let new = c.turn_of.new.actor in
    record {
      made = made_any job (fresh_of (table d)) r.memory.items c.turn_of.new.memory.items r.actors.items c.args.actor old new (low d) (old_is d) c.turn_of.result (turn d)
          ∙ ap (λ (run : Run). has_any (rest_in run c.args.actor)) c.self.view_is;
      turned = turned d ∙ ap (λ (run : Run). after_turns run (c.args.actor ∷ [])) c.self.view_is;
      none = λ none.
          (let idle = subst (λ (made : Bool). IsTurn job r.memory.items old made c.turn_of.new.memory.items new) none (turn d) in
          ap (λ (s : State (List (List ℕ)) Micro Registers). record run { state = s })
          (not_made job (fresh_of (table d)) r.memory.items c.turn_of.new.memory.items r.actors.items c.args.actor old new (low d) (old_is d) idle)
          ∙ c.self.view_is);
    }
