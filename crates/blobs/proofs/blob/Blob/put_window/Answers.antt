use Rattle.blobs.proofs.Lemmas.{◌*◌, arith, IsPut, whole_put}
use Rattle.blobs.proofs.blob.Blob.put_window.Goals as goal

written : (c : goal.After-put_word) → IsPut c.args.self.now c.put_word.new.self (8 * c.args.at) 64 c.args.value
written c = whole_put c.args.self.now c.put_word.new.self c.args.at 8 64 c.args.value (omega arith) (omega arith) c.put_word.ensures

pub returns-then-len-at-ge8-clause-inside : goal.returns-then-len-at-ge8-clause-inside
returns-then-len-at-ge8-clause-inside c = λ k h within. (written c).inside k h

pub returns-then-len-at-ge8-clause-before : goal.returns-then-len-at-ge8-clause-before
returns-then-len-at-ge8-clause-before c = (written c).before

pub returns-then-len-at-ge8-clause-after : goal.returns-then-len-at-ge8-clause-after
returns-then-len-at-ge8-clause-after c = (written c).after
