use Rattle.blob_file.proofs.Lemmas.{rules, ◌≡◌, ◌*◌, ◌∙◌, List, None, Some, Err, inr, length, map, sym, ap, arith, sum_by, ExtentWord, bad_shape, bad_extents, extent_of, Owner, schema_fields, owners_by, CanLie, with_header, header_in, common_steps, fit_by, shaped_by, ranged_by, can_by, none_by, same_owners, no_layout, no_length, refused, on_ok}
use Rattle.blob_file.specs.declared.fault.FileFault.TheVariants as fault
use Rattle.blob_file.proofs.open.empty_view.Goals as goal
use Rattle.blob_file.proofs.open.empty_view.Goals.{In_ok-bytes}

pub returns-in_err-schema-clause-refused : goal.returns-in_err-schema-clause-refused
returns-in_err-schema-clause-refused c = grind (arith, common_steps, refused, no_layout, fit_by)

pub returns-in_err-extents-clause-refused : goal.returns-in_err-extents-clause-refused
returns-in_err-extents-clause-refused c =
    let header = c.args.header in
    let told = with_header (Some (header_in header, c.args.body.now)) in
    let words : c.as_slice.result.now ≡ header.words = search rules in
    let is : c.from_residual-in_err-extents.result ≡ Err c.in_err-extents.field-0.0 = search rules in
    rw is (refused told fault.Layout c.in_err-extents.field-0.0
    (λ none. no_layout (header_in header) c.args.body.now (λ can.
    none (ap bad_shape words ∙ shaped_by header c.requires.plain can)
    (ap (λ (w : List ExtentWord). bad_extents w None) words ∙ ranged_by header c.requires.plain can)))
    (inr c.in_err-extents.ensures.refused))

pub returns-in_err-bytes-clause-refused : goal.returns-in_err-bytes-clause-refused
returns-in_err-bytes-clause-refused c =
    let header = c.args.header in
    let told = with_header (Some (header_in header, c.args.body.now)) in
    let words : c.as_slice.result.now ≡ header.words = search rules in
    let fields = schema_fields c.in_ok-schema.schema in
    let are : c.in_ok-extents.extents ≡ map (extent_of 0) header.words = c.in_ok-extents.ensures.extents ∙ ap (map (extent_of 0)) words in
    let is : c.from_residual-in_err-bytes.result ≡ Err c.in_err-bytes.field-0.0 = search rules in
    rw is (refused told fault.Layout c.in_err-bytes.field-0.0
    (λ none. no_layout (header_in header) c.args.body.now (none_by header c.requires.plain fields c.in_ok-extents.extents c.in_ok-schema.ensures.made are none)) c.in_err-bytes.ensures.refused)

-- a view can be made
can : (c : In_ok-bytes) → CanLie (header_in c.args.header)
can c =
    let header = c.args.header in
    let words : c.as_slice.result.now ≡ header.words = search rules in
    let are : c.in_ok-extents.extents ≡ map (extent_of 0) header.words = c.in_ok-extents.ensures.extents ∙ ap (map (extent_of 0)) words in
    let shaped : bad_shape header.words ≡ None = sym (ap bad_shape words) ∙ c.in_ok-extents.ensures.shaped in
    let ranged : bad_extents header.words None ≡ None = sym (ap (λ (w : List ExtentWord). bad_extents w None) words) ∙ c.in_ok-extents.ensures.ranged in
    can_by header c.requires.plain (schema_fields c.in_ok-schema.schema) c.in_ok-extents.extents c.in_ok-schema.ensures.made are c.in_ok-schema.ensures.fit shaped ranged
    c.in_ok-bytes.ensures.mapped c.in_ok-bytes.ensures.within

-- and has so many bytes
bits : (c : In_ok-bytes) → 8 * c.in_ok-bytes.bytes ≡ sum_by (length {A = Owner}) (owners_by (header_in c.args.header))
bits c = grind (arith, sum_by, same_owners)

pub returns-then-body-bytes-clause-refused : goal.returns-then-body-bytes-clause-refused
returns-then-body-bytes-clause-refused c =
    let at = (goal.at.returns-then-body-bytes-clause-refused c).In_ok-bytes in
    let header = header_in c.args.header in
    inr (no_length header c.args.body.now (can at) (λ same. c.if-body-bytes.true (let equal : length c.args.body.now ≡ c.in_ok-bytes.bytes = omega (arith, same, bits at) in equal)))

pub returns-clause-lies : goal.returns-clause-lies
returns-clause-lies c = on_ok c.zeros.result (can (goal.at.returns-clause-lies c).In_ok-bytes)

pub returns-clause-sized : goal.returns-clause-sized
returns-clause-sized c = on_ok c.zeros.result (let same : 8 * length c.args.body.now ≡ 8 * c.in_ok-bytes.bytes = omega arith in same ∙ bits (goal.at.returns-clause-sized c).In_ok-bytes)
