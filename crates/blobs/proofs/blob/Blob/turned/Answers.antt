use Rattle.blobs.proofs.Lemmas.{◌∙◌, arith, turned_read}
use Rattle.blobs.proofs.blob.Blob.turned.Goals as goal

pub returns-then-n-le16 : goal.returns-then-n-le16
returns-then-n-le16 c = c.from.ensures ∙ turned_read c.args.self.now c.args.first 2 c.args.n c.turned_two.result (omega arith) c.turned_two.ensures.bytes c.turned_two.ensures.word

pub returns-then-n-le32 : goal.returns-then-n-le32
returns-then-n-le32 c = c.from-then-n-le32.ensures ∙ turned_read c.args.self.now c.args.first 4 c.args.n c.turned_four.result (omega arith) c.turned_four.ensures.bytes c.turned_four.ensures.word

pub returns-else-n-le32 : goal.returns-else-n-le32
returns-else-n-le32 c = turned_read c.args.self.now c.args.first 8 c.args.n c.turned_word.result (omega arith) c.turned_word.ensures.bytes c.turned_word.ensures.word
