use Rattle.view_commands.proofs.Imports.{rules, arith, ◌≡◌, ◌<◌, IsErr, [], length, get_or, ap, ◌∙◌, Stopped-flat_map, Stopped-second, Writes-err, Wrote-append, flat_map_push, bytes_text, bytes_of_bits, common_steps}
use Rattle.view_commands.proofs.by_actors.write_memory.Goals as goal

pub returns-in_err-write_bytes : goal.returns-in_err-write_bytes
returns-in_err-write_bytes g c =
    let memory = c.args.run.now.state.memory in
    let small : c.loop-blob.blob < length memory = omega (arith, c.loop-blob-test.true, c.requires.all) in
    let err : IsErr c.from_residual.result = search rules in
    let is : bytes_text _ ≡ bytes_text (get_or memory c.loop-blob.blob []) = ap bytes_text (bytes_of_bits c.memory-blob.result.now c.bytes_law.ensures ∙ c.memory-blob.ensures) in
    let stopped = rw is at c.in_err-write_bytes.ensures in
    Writes-err c.from_residual.result err (Stopped-flat_map bytes_text memory c.loop-blob.blob [] small (Stopped-second c.loop-blob.invariant stopped))

pub loop-blob-preserved : goal.loop-blob-preserved
loop-blob-preserved g c = grind (arith, common_steps, bytes_of_bits, flat_map_push, Wrote-append)
