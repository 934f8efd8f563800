use Rattle.blobs.proofs.Lemmas.{◌*◌, arith, IsPut, whole_put}
use Rattle.blobs.proofs.blob.Blob.put_whole.Goals as goal

put_two : (c : goal.After-put_two) → IsPut c.args.self.now c.put_two.new.self (8 * c.args.first) c.args.n c.args.value
put_two c = whole_put c.args.self.now c.put_two.new.self c.args.first 2 c.args.n c.args.value (omega arith) (omega arith) c.put_two.ensures

pub returns-else-n-le8-clause-inside : goal.returns-else-n-le8-clause-inside
returns-else-n-le8-clause-inside c = (put_two c).inside

pub returns-else-n-le8-clause-before : goal.returns-else-n-le8-clause-before
returns-else-n-le8-clause-before c = (put_two c).before

pub returns-else-n-le8-clause-after : goal.returns-else-n-le8-clause-after
returns-else-n-le8-clause-after c = (put_two c).after

put_four : (c : goal.After-put_four) → IsPut c.args.self.now c.put_four.new.self (8 * c.args.first) c.args.n c.args.value
put_four c = whole_put c.args.self.now c.put_four.new.self c.args.first 4 c.args.n c.args.value (omega arith) (omega arith) c.put_four.ensures

pub returns-then-n-le32-clause-inside : goal.returns-then-n-le32-clause-inside
returns-then-n-le32-clause-inside c = (put_four c).inside

pub returns-then-n-le32-clause-before : goal.returns-then-n-le32-clause-before
returns-then-n-le32-clause-before c = (put_four c).before

pub returns-then-n-le32-clause-after : goal.returns-then-n-le32-clause-after
returns-then-n-le32-clause-after c = (put_four c).after

put_word : (c : goal.After-put_word) → IsPut c.args.self.now c.put_word.new.self (8 * c.args.first) c.args.n c.args.value
put_word c = whole_put c.args.self.now c.put_word.new.self c.args.first 8 c.args.n c.args.value (omega arith) (omega arith) c.put_word.ensures

pub returns-else-n-le32-clause-inside : goal.returns-else-n-le32-clause-inside
returns-else-n-le32-clause-inside c = (put_word c).inside

pub returns-else-n-le32-clause-before : goal.returns-else-n-le32-clause-before
returns-else-n-le32-clause-before c = (put_word c).before

pub returns-else-n-le32-clause-after : goal.returns-else-n-le32-clause-after
returns-else-n-le32-clause-after c = (put_word c).after
