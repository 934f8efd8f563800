use Rattle.blobs.proofs.Imports.{arith, read_field}
use Rattle.blobs.proofs.word.bits_in_word.Goals as goal

pub returns : goal.returns
returns c = read_field c.args.word c.args.low c.args.n (omega arith)
