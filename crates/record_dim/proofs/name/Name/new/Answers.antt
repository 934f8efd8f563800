use Rattle.record_dim.proofs.Imports.{◌≡◌, true, arith, rules, is_word, stored}
use Rattle.record_dim.proofs.name.Name.new.Goals as goal

pub invariant_of-result : goal.invariant_of-result
invariant_of-result c =
    let text = c.as_bytes-text.result.now in
    let word : is_word text ≡ true = search rules in
    rw c.copy_from_slice.ensures.after (stored text (omega arith) word)
