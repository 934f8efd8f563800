use Rattle.record_dim.specs.Std.{◌≡◌, ℕ, List, Option, Ok, Err, length, ap, subst}
use Rattle.llama_c.proofs.Imports.{Table, Answer, answer_map, given_or, on_held, blob_told, needed_after}
use Rattle.llama_c.proofs.placed.lly_blob_at.Goals as goal

told_length : (told : Answer (List ℕ)) (n old : ℕ) → Ok n ≡ answer_map (length {A = ℕ}) told → n ≡ needed_after told old
told_length (Ok bytes) n old same = ap (given_or 0) same
told_length (Err refused) n old same = absurd (cc)

pub returns-in-Ok-clause-length : goal.returns-in-Ok-clause-length
returns-in-Ok-clause-length c =
    let count = c.in-Ok.field-0.count in
    let old = c.args.length.now in
    subst (λ (held : Option Table). count ≡ needed_after (on_held (blob_told c.args.blob) held) old) c.in-Some.ensures.view
    (subst (λ (table : Table). count ≡ needed_after (blob_told c.args.blob table) old) c.deref.ensures
    (told_length (blob_told c.args.blob c.deref.result.now) count old c.in-Ok.ensures))
