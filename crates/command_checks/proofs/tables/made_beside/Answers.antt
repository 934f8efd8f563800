use Rattle.command_checks.proofs.Imports.{◌∙◌, sym, ap, term_of, schema_fields, Ok, common_steps, table_new, arith}
use Rattle.command_checks.proofs.Limits.{made_goes, made_full, bits_over, bits_within}
use Rattle.command_checks.proofs.tables.made_beside.Goals as goal

pub returns-then-live-gt-MAX_LIVE_BYTES-clause-made : goal.returns-then-live-gt-MAX_LIVE_BYTES-clause-made
returns-then-live-gt-MAX_LIVE_BYTES-clause-made c = λ views sum.
    made_full views c.args.mode (schema_fields c.args.schema.now) c.args.extents (term_of c.args.expr.now) c.in-Ok.ensures.accepted
    (bits_over c.args.live _ _ sum c.if-live-gt-MAX_LIVE_BYTES.true)

pub returns-else-live-gt-MAX_LIVE_BYTES-clause-made : goal.returns-else-live-gt-MAX_LIVE_BYTES-clause-made
returns-else-live-gt-MAX_LIVE_BYTES-clause-made c = λ views sum.
    let fields = schema_fields c.args.schema.now in
    let term = term_of c.args.expr.now in
    let table = table_new c.in-Ok.view c.args.mode fields c.args.extents term c.in-Ok.ensures.mode c.in-Ok.ensures.schema c.in-Ok.ensures.extents c.in-Ok.ensures.expr c.in-Ok.ensures.table c.in-Ok.ensures.tally in
    made_goes views c.args.mode fields c.args.extents term c.in-Ok.ensures.accepted c.in-Ok.ensures.fits
    (bits_within c.args.live c.left_beside.result _ _ sum c.left_beside.ensures c.if-live-gt-MAX_LIVE_BYTES.false c.in-Ok.ensures.within) ∙ sym (ap Ok table)

pub returns-else-live-gt-MAX_LIVE_BYTES-clause-zeros : goal.returns-else-live-gt-MAX_LIVE_BYTES-clause-zeros
returns-else-live-gt-MAX_LIVE_BYTES-clause-zeros c = grind (arith, common_steps, table_new)
