use Rattle.view_commands.proofs.Imports.{ap, Table}
use Rattle.view_commands.proofs.Arms.{ends_update}
use Rattle.view_commands.proofs.Sets.{filter_is}
use Rattle.view_commands.proofs.by_actors.started.Goals as goal

pub returns-in-Ok-clause-run : goal.returns-in-Ok-clause-run
returns-in-Ok-clause-run g c = rw (filter_is _ _ c.as_ref-filter.ensures.value, c.as_slice-sets.ensures.value, c.as_slice.ensures.value) at c.in-Ok.ensures.begun

pub returns-in-Ok-clause-updated : goal.returns-in-Ok-clause-updated
returns-in-Ok-clause-updated g c = rw (filter_is _ _ c.as_ref-filter.ensures.value, c.as_slice-sets.ensures.value) at c.in-Ok.ensures.updated

pub returns-in_ok-in_words-in-Err-Update-clause-refused : goal.returns-in_ok-in_words-in-Err-Update-clause-refused
returns-in_ok-in_words-in-Err-Update-clause-refused g c =
    let met = rw (filter_is _ _ c.as_ref-filter.ensures.value, c.as_slice-sets.ensures.value, c.in-Err-Update.field-0-is) at c.in-Err-Update.ensures.refused in
    let same = ap (λ (t : Table). t.fields) c.in-Err-Update.ensures.stands in
    rw (c.in_ok-in_words-in-Err-Update.ensures.told, c.update_fault.ensures, same) (ends_update c.args.view.now.fields _ c.in-Err-Update.fault met)
