use Rattle.blobs.proofs.Lemmas.{arith, IsTurnedPut, turned_put}
use Rattle.blobs.proofs.blob.Blob.put_turned.Goals as goal

put_two : (c : goal.After-put_turned_two) → IsTurnedPut c.args.self.now c.put_turned_two.new.self c.args.first c.args.n c.args.value
put_two c = turned_put c.args.self.now c.put_turned_two.new.self c.args.first 2 c.args.n c.args.value (omega arith) (omega arith) c.put_turned_two.ensures

pub returns-then-n-le16-clause-inside : goal.returns-then-n-le16-clause-inside
returns-then-n-le16-clause-inside c = (put_two c).inside

pub returns-then-n-le16-clause-after : goal.returns-then-n-le16-clause-after
returns-then-n-le16-clause-after c = (put_two c).after

put_four : (c : goal.After-put_turned_four) → IsTurnedPut c.args.self.now c.put_turned_four.new.self c.args.first c.args.n c.args.value
put_four c = turned_put c.args.self.now c.put_turned_four.new.self c.args.first 4 c.args.n c.args.value (omega arith) (omega arith) c.put_turned_four.ensures

pub returns-then-n-le32-clause-inside : goal.returns-then-n-le32-clause-inside
returns-then-n-le32-clause-inside c = (put_four c).inside

pub returns-then-n-le32-clause-after : goal.returns-then-n-le32-clause-after
returns-then-n-le32-clause-after c = (put_four c).after

put_word : (c : goal.After-put_turned_word) → IsTurnedPut c.args.self.now c.put_turned_word.new.self c.args.first c.args.n c.args.value
put_word c = turned_put c.args.self.now c.put_turned_word.new.self c.args.first 8 c.args.n c.args.value (omega arith) (omega arith) c.put_turned_word.ensures

pub returns-else-n-le32-clause-inside : goal.returns-else-n-le32-clause-inside
returns-else-n-le32-clause-inside c = (put_word c).inside

pub returns-else-n-le32-clause-after : goal.returns-else-n-le32-clause-after
returns-else-n-le32-clause-after c = (put_word c).after
