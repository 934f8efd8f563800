use Rattle.view_commands.proofs.Imports.{arith, ◌≡◌, ◌∙◌, ◌+◌, length, ap, Run, update_log, after_stores, memory_text, reads_first, left_with, bindings_of, common_steps}
use Rattle.view_commands.proofs.Acting.{acted_goes, sink_is, has_turned, turned_count, stored_back}
use Rattle.view_commands.proofs.Shown.{then_broke, then_wrote}
use Rattle.view_commands.proofs.by_actors.act.Goals as goal

pub write_memory-requires-clause-there : goal.write_memory-requires-clause-there
write_memory-requires-clause-there g c = grind (arith, common_steps, has_turned)

pub write_memory-requires-clause-all : goal.write_memory-requires-clause-all
write_memory-requires-clause-all g c = grind (arith, common_steps, has_turned, turned_count)

pub returns-in_err-write_memory-clause-answers : goal.returns-in_err-write_memory-clause-answers
returns-in_err-write_memory-clause-answers g c =
    let table = c.args.view.now in
    let bound = bindings_of c.args.team.now in
    let cuts = c.args.team.now.cuts.items in
    let actors : c.len.result + 1 ≡ length c.args.team.now.cuts.items + 1 = omega (arith, c.len.ensures.value) in
    let turned = has_turned table bound cuts c.args.seed c.args.turns _ _ _ c.in_ok-run.ensures.run actors c.take_turns.ensures in
    let plain = c.in_ok-run.ensures.updated in
    let left = left_with (after_stores table plain.0 (reads_first (update_log table bound.test bound.settings (length table.rows)))) (memory_text c.take_turns.new.run.state.memory) in
    grind (arith, then_broke, sink_is, acted_goes)

pub returns-clause-answers : goal.returns-clause-answers
returns-clause-answers g c =
    let table = c.args.view.now in
    let bound = bindings_of c.args.team.now in
    let cuts = c.args.team.now.cuts.items in
    let actors : c.len.result + 1 ≡ length c.args.team.now.cuts.items + 1 = omega (arith, c.len.ensures.value) in
    let turned = has_turned table bound cuts c.args.seed c.args.turns _ _ _ c.in_ok-run.ensures.run actors c.take_turns.ensures in
    let test = ap (λ (run : Run). run.filter) c.finish.ensures.finished ∙ turned.test in
    let settings = ap (λ (run : Run). run.sets) c.finish.ensures.finished ∙ turned.settings in
    let back = c.store_back.ensures in
    let stored = stored_back table c.started.new.view c.store_back.new.view bound back.0 _ _ test settings c.in_ok-run.ensures.read back.1 back.2 in
    grind (arith, then_wrote, acted_goes)
