use Rattle.blobs.proofs.Imports.{◌≡◌, ◌+◌, ◌*◌, ◌%◌, ◌^◌, arith, number, bit_of, place_is, read_step, read_fits}
use Rattle.blobs.proofs.blob.Blob.bits_by_bytes.Goals as goal

read_more : (c : goal.After-bits_in_word) → c.loop-done.value + c.bits_in_word.result * 2 ^ c.loop-done.done % 2 ^ 64 ≡ number (λ k. bit_of c.args.self.now (c.args.at + k)) (c.loop-done.done + c.min-part.result)
read_more c =
    read_step c.args.self.now c.args.at c.loop-done.done _ _ c.min-part.result c.loop-done.value c.bits_in_word.result
    (place_is c.args.at c.loop-done.done) (omega arith) (omega arith) c.loop-done.invariant.1 cc

pub overflow_add-value : goal.overflow_add-value
overflow_add-value c = let more = read_more c in omega (arith, read_fits c.args.self.now c.args.at (c.loop-done.done + c.min-part.result) (omega arith))

pub loop-done-preserved : goal.loop-done-preserved
loop-done-preserved c = (omega arith, read_more c)
