use Rattle.actors.proofs.Lemmas.{◌∙◌, ℕ, List, length, map, sym, ap, subst, filter_term, setting_of, Table, job_of, ArePlans, Run, IsPlain, IsPlainMemory, IsStoredBack, done_plain}
use Rattle.actors.proofs.run.ActorRun.store_back.Goals as goal

pub store_rows-requires-clause-planned : goal.store_rows-requires-clause-planned
store_rows-requires-clause-planned g c =
    let r = c.self.inside in
    let found = c.requires.view ∙ sym (ap (λ (run : Run). run.found) c.self.view_is) in
    subst (λ (t : Table). ArePlans (job_of t (filter_term r.filter) (map setting_of r.sets.now)) (length t.rows) r.plans.rows.items) (sym found) c.self.invariant.plans_are

pub store_rows-requires-clause-plain : goal.store_rows-requires-clause-plain
store_rows-requires-clause-plain g c =
    let r = c.self.inside in
    let found = c.requires.view ∙ sym (ap (λ (run : Run). run.found) c.self.view_is) in
    let plain = subst IsPlain (sym c.self.view_is) (done_plain c.schedules_agree.ensures.bytes c.args.self.now c.law.ensures.parted c.law.ensures.reached c.requires.done) in
    subst (λ (m : List (List ℕ)). IsPlainMemory c.args.view.now (filter_term r.filter) (map setting_of r.sets.now) m) (sym c.as_slice.ensures.value)
    (subst (λ (t : Table). IsPlainMemory t (filter_term r.filter) (map setting_of r.sets.now) r.memory.items) (sym found) plain)

pub returns : goal.returns
returns g c = subst (λ (run : Run). IsStoredBack c.args.view.now run.filter run.sets c.store_rows.new.view) c.self.view_is c.store_rows.ensures
