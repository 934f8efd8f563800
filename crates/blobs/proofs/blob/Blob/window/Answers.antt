use Rattle.blobs.proofs.Numbers.{word_bit}
use Rattle.blobs.proofs.blob.Blob.window.Goals as goal

pub returns-then-len-at-ge8 : goal.returns-then-len-at-ge8
returns-then-len-at-ge8 c = λ k h. word_bit c.args.self.now c.args.at c.word.result k c.word.ensures.bytes c.word.ensures.word h
