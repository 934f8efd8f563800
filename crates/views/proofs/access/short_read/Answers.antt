use Rattle.views.proofs.Lemmas.{◌∙◌, rules, arith, w128, to_z-of_z, StandsIn, with_rules, stands, lies, blob_there, blob_is, word_there, word_read, bytes_wide, bytes_read}
use Rattle.views.proofs.access.short_read.Goals as goal
use Rattle.views.proofs.access.short_read.Goals.{In_default}

-- where the leaf stands
at : (c : In_default) → StandsIn c.args.map.now c.args.row c.args.leaf c.short-rule.result.now.short c.in_ok-start.start c.args.blobs.now
at c =
    stands c.args.map.now.holds c.args.row c.args.leaf c.laws_of.ensures.lawful c.laws_of.ensures.paired c.requires.row_in c.requires.leaf_in
    (c.short-rule.ensures.form c.in_ok-start.ensures.some) c.in_ok-start.start c.in_ok-start.ensures.start c.args.blobs.now c.requires.laid.sized c.in_default.not-Scattered

pub bounds-blobs-short : goal.bounds-blobs-short
bounds-blobs-short c = blob_there (at (goal.at.bounds-blobs-short c).In_default)

pub offset_bounds-blobs-short : goal.offset_bounds-blobs-short
offset_bounds-blobs-short c = omega (arith, blob_there (at (goal.at.offset_bounds-blobs-short c).In_default))

pub read_word-requires : goal.read_word-requires
read_word-requires c =
    let here = at (goal.at.read_word-requires c).In_default in
    record { form = here.form; within = word_there here c.index-blobs-short.result (blob_is here _ _ c.index-blobs-short.is) }

pub returns-in_default-clause-value : goal.returns-in_default-clause-value
returns-in_default-clause-value c =
    let here = at (goal.at.returns-in_default-clause-value c).In_default in
    to_z-of_z w128 c.read_word.result (search rules) ∙ word_read here c.index-blobs-short.result c.read_word.result (blob_is here _ _ c.index-blobs-short.is) c.read_word.ensures

pub read_scattered-requires-clause-wide : goal.read_scattered-requires-clause-wide
read_scattered-requires-clause-wide c =
    bytes_wide (lies c.args.map.now.holds c.args.row c.args.leaf c.laws_of.ensures.lawful c.laws_of.ensures.paired c.requires.row_in c.requires.leaf_in
    (with_rules c.as_slice.result.now c.as_slice.ensures.value (c.short-rule.ensures.form c.in_ok-start.ensures.some)) c.in_ok-start.start c.in_ok-start.ensures.start c.args.blobs.now c.requires.laid.sized
    c.in-Scattered.is)

pub returns-in-Scattered-clause-value : goal.returns-in-Scattered-clause-value
returns-in-Scattered-clause-value c =
    to_z-of_z w128 c.read_scattered.result (search rules)
    ∙ bytes_read (lies c.args.map.now.holds c.args.row c.args.leaf c.laws_of.ensures.lawful c.laws_of.ensures.paired c.requires.row_in c.requires.leaf_in
    (with_rules c.as_slice.result.now c.as_slice.ensures.value (c.short-rule.ensures.form c.in_ok-start.ensures.some)) c.in_ok-start.start c.in_ok-start.ensures.start c.args.blobs.now c.requires.laid.sized
    c.in-Scattered.is) c.args.blobs.now c.read_scattered.result c.read_scattered.ensures
