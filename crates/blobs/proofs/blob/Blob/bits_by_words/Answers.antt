use Rattle.blobs.proofs.Lemmas.{◌/◌, ◌∙◌, field_read, byte_and_bit, word_bit}
use Rattle.blobs.proofs.blob.Blob.bits_by_words.Goals as goal

pub returns-then-len-first-ge8 : goal.returns-then-len-first-ge8
returns-then-len-first-ge8 c =
    c.bits_in_word.ensures
    ∙ field_read c.args.self.now c.args.at _ _ c.args.n c.word.result (byte_and_bit c.args.at) c.if-low-n-gt64.false
    (λ k h. word_bit c.args.self.now (c.args.at / 8) c.word.result k c.word.ensures.bytes c.word.ensures.word h)
