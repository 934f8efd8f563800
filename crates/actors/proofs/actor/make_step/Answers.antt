use Rattle.actors.proofs.Lemmas.{◌∙◌, ℕ, [], None, List, length, rules, arith, SFits, subst, ap, w128, to_z-of_z, length-leaf_cells, setting_of, owners_of, job_of, row_in, value_kept_on, IsStepOf, common_steps, store_made}
use Rattle.actors.proofs.actor.make_step.Goals as goal

pub changed_byte-byte-requires-clause-leaf_in : goal.changed_byte-byte-requires-clause-leaf_in
changed_byte-byte-requires-clause-leaf_in c = grind (arith, common_steps, length-leaf_cells)

pub returns-in-Store-clause-stored : goal.returns-in-Store-clause-stored
returns-in-Store-clause-stored c =
    let table = c.args.view.now in
    let at = subst (IsStepOf (owners_of table) (length table.rows) (length c.args.sets.now)) c.in-Store.is c.requires.step in
    let set = c.index-sets-set.result in
    let value = c.value_of-value.result in
    let fits : SFits w128 value = search rules in
    store_made table c.args.sets.now c.args.step c.in-Store.place c.in-Store.row c.in-Store.set set c.args.memory.now.items c.put_byte-in-Store.new.blobs.items c.args.bytes.now _ value
    c.changed_byte-byte.result c.in-Store.is at.2 c.index-sets-set.is c.map.ensures.layout
    (c.value_of-value.ensures ∙ ap (λ (w : List (List ℕ)). value_kept_on (job_of table None []) (row_in (job_of table None []) w c.in-Store.row) c.in-Store.row (setting_of set)) c.deref-in-Store.ensures.value)
    (rw (to_z-of_z w128 value fits) at c.changed_byte-byte.ensures.byte) c.put_byte-in-Store.ensures
