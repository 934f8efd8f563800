use Rattle.blobs.proofs.Lemmas.{◌∙◌, arith, whole_read}
use Rattle.blobs.proofs.blob.Blob.whole.Goals as goal

pub returns-else-n-le8 : goal.returns-else-n-le8
returns-else-n-le8 c = c.from-else-n-le8.ensures ∙ whole_read c.args.self.now c.args.first 2 c.args.n c.two.result (omega arith) c.two.ensures.bytes c.two.ensures.word

pub returns-then-n-le32 : goal.returns-then-n-le32
returns-then-n-le32 c = c.from-then-n-le32.ensures ∙ whole_read c.args.self.now c.args.first 4 c.args.n c.four.result (omega arith) c.four.ensures.bytes c.four.ensures.word

pub returns-else-n-le32 : goal.returns-else-n-le32
returns-else-n-le32 c = whole_read c.args.self.now c.args.first 8 c.args.n c.word.result (omega arith) c.word.ensures.bytes c.word.ensures.word
