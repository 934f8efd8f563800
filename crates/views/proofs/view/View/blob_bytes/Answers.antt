use Rattle.views.proofs.Lemmas.{ℕ, ◌≡◌, ◌+◌, ◌*◌, ◌≤◌, ◌∙◌, length, get_or, take, ap, arith, sum_by, take_all, get_or_read, sum_by_more_le, Owner, Table, owners_of, [], byte_count, few_bytes}
use Rattle.views.proofs.view.View.blob_bytes.Goals as goal

pub overflow_add-bytes : goal.overflow_add-bytes
overflow_add-bytes c =
    let items = c.deref-blob-items.result.now in
    let total : sum_by (length {A = ℕ}) items ≡ sum_by (length {A = ℕ}) c.self.inside.blobs.items = ap (sum_by (length {A = ℕ})) c.deref-blob-items.ensures.value in
    let more : sum_by (length {A = ℕ}) (take c.loop-blob.blob-index items) + length (get_or items c.loop-blob.blob-index []) ≤ sum_by (length {A = ℕ}) items =
    sum_by_more_le (length {A = ℕ}) items c.loop-blob.blob-index [] c.loop-blob-test.true in
    let item : c.blob-item.result ≡ get_or items c.loop-blob.blob-index [] = get_or_read items c.loop-blob.blob-index c.blob-item.result c.loop-blob-test.true c.blob-item.is [] in
    let long : length c.blob-item.result ≡ length (get_or items c.loop-blob.blob-index []) = ap (length {A = ℕ}) item in
    omega (arith, c.loop-blob.invariant, c.len.ensures, few_bytes c.self.invariant.1)

pub returns : goal.returns
returns c =
    let items = c.deref-blob-items.result.now in
    let whole : take c.loop-blob.blob-index items ≡ items = take_all c.loop-blob.blob-index items (omega arith) in
    let bytes : c.loop-blob.bytes ≡ sum_by (length {A = ℕ}) c.self.inside.blobs.items =
    c.loop-blob.invariant ∙ ap (sum_by (length {A = ℕ})) (whole ∙ c.deref-blob-items.ensures.value) in
    record {
      sum = ap (λ (n : ℕ). 8 * n) bytes ∙ byte_count c.self.invariant.1 ∙ ap (λ (s : Table). sum_by (length {A = Owner}) (owners_of s)) c.self.view_is;
      few = omega (arith, few_bytes c.self.invariant.1);
    }
