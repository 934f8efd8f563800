use Rattle.blobs.proofs.Lemmas.{◌≡◌, ℕ, ◌+◌, ◌-◌, ◌*◌, ◌/◌, ◌%◌, ◌^◌, ap, ◌∙◌, arith, number, bit_of, byte_and_bit, read_step, read_fits, field_read, word_bit}
use Rattle.blobs.proofs.blob.Blob.bits_of_nine.Goals as goal

-- the bits of the word, and then those of the byte behind it
both : (c : goal.After-bits_in_word-last) → c.bits_in_word-value.result + c.bits_in_word-last.result * 2 ^ (64 - c.args.at % 8) % 2 ^ 64 ≡ number (λ k. bit_of c.args.self.now (c.args.at + k)) c.args.n
both c =
    let at = c.args.at in
    let done : ℕ = 64 - at % 8 in
    let all : 64 - at % 8 + (c.args.n - (64 - at % 8)) ≡ c.args.n = omega arith in
    let word = c.bits_in_word-value.ensures
    ∙ field_read c.args.self.now at (at / 8) (at % 8) (64 - at % 8) c.word.result (byte_and_bit at) (omega arith)
    (λ k h. word_bit c.args.self.now (at / 8) c.word.result k c.word.ensures.bytes c.word.ensures.word h) in
    read_step c.args.self.now at (64 - at % 8) (at / 8 + 8) 0 (c.args.n - (64 - at % 8)) c.bits_in_word-value.result c.bits_in_word-last.result
    (omega arith) (omega arith) (omega arith) word (cc)
    ∙ ap (number (λ k. bit_of c.args.self.now (at + k))) all

pub overflow_add-result : goal.overflow_add-result
overflow_add-result c = let sum = both c in omega (arith, read_fits c.args.self.now c.args.at c.args.n c.requires.few)

pub returns : goal.returns
returns c = both c
