use Rattle.c_lines.proofs.Lemmas.{◌≡◌, ◌∙◌, ◌*◌, [], alone, live_bits, term_of, alone_bits, gave_answered, goes_ok}
use Rattle.c_lines.proofs.relayout.zeros_beside.Goals as goal

pub returns-clause-made : goal.returns-clause-made
returns-clause-made c =
    let table = c.args.view.now in
    let live : 8 * c.from-live.result ≡ live_bits (alone [] table).views = rw c.from-live.ensures (c.blob_bytes.ensures.sum ∙ alone_bits [] table) in
    let whole = goes_ok term_of c.nameless-2.result _ c.in_ok-expr.expr c.in_ok-expr.ensures (rw c.new.ensures at c.nameless-2.ensures.whole) in
    rw (c.answered-zeros.ensures, whole) (gave_answered table.fields (λ fresh. fresh) c.made_beside.result _
    (rw (c.mode-mode.ensures, c.schema.ensures.value, c.extents-extents.ensures.value) at c.made_beside.ensures.made (alone [] table).views live))
