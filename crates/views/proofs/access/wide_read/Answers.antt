use Rattle.views.proofs.Lemmas.{◌∙◌, ◌+◌, ◌*◌, turned_place, length, get_or, rules, arith, w128, to_z-of_z, IsWholeWide, IsBlockWide, IsFieldWide, IsTurnedWide, [], StandsIn, stands, blob_there, blob_is, word_read, plain_leads, blocks_lead, wide_seen, room_at, room_by_bit, said_whole, said_field, said_by, field_alone, turned_is}
use Rattle.views.proofs.access.wide_read.Goals as goal
use Rattle.views.proofs.access.wide_read.Goals.{After-plain_start-start, After-block_start-start, After-plain_start-start-then-row-rule-3, After-plain_start-start-then-row-rule-4}

-- ---- whole bytes

whole : (c : After-plain_start-start) → IsWholeWide c.short-rule.result.now.short (length (get_or c.args.blobs.now c.short-rule.result.now.short.blob [])) c.args.row
whole c = (wide_seen c.requires.laid c.short-rule.ensures.wide).whole c.args.row c.if-row-rule.true

at_whole : (c : After-plain_start-start) → StandsIn c.args.map.now c.args.row c.args.leaf c.short-rule.result.now.short c.plain_start-start.result c.args.blobs.now
at_whole c =
    stands c.args.map.now.holds c.args.row c.args.leaf c.laws_of.ensures.lawful c.laws_of.ensures.paired c.requires.row_in c.requires.leaf_in
    (c.short-rule.ensures.form (plain_leads _ (whole c).walk)) c.plain_start-start.result c.plain_start-start.ensures c.args.blobs.now c.requires.laid.sized (whole c).word.alone

pub plain_start-start-requires : goal.plain_start-start-requires
plain_start-start-requires c =
    let wide = (wide_seen c.requires.laid c.short-rule.ensures.wide).whole c.args.row c.if-row-rule.true in
    record { plain = wide.walk; start = (c.short-rule.ensures.form (plain_leads _ wide.walk)).starts c.args.row c.requires.row_in }

pub bounds-blobs-short : goal.bounds-blobs-short
bounds-blobs-short c = blob_there (at_whole (goal.at.bounds-blobs-short c).After-plain_start-start)

pub offset_bounds-blobs-short : goal.offset_bounds-blobs-short
offset_bounds-blobs-short c = omega (arith, blob_there (at_whole (goal.at.offset_bounds-blobs-short c).After-plain_start-start))

pub whole_wide-requires-clause-room : goal.whole_wide-requires-clause-room
whole_wide-requires-clause-room c =
    let d = (goal.at.whole_wide-requires-clause-room c).After-plain_start-start in
    room_at _ _ _ _ (blob_is (at_whole d) _ _ c.index-blobs-short.is) c.plain_start-start.ensures (whole d).room

pub returns-then-row-rule : goal.returns-then-row-rule
returns-then-row-rule c =
    let d = (goal.at.returns-then-row-rule c).After-plain_start-start in
    let leads = plain_leads _ (whole d).walk in
    record {
      value = to_z-of_z w128 c.whole_wide.result (search rules)
          ∙ word_read (at_whole d) c.index-blobs-short.result c.whole_wide.result (blob_is (at_whole d) _ _ c.index-blobs-short.is)
          (c.whole_wide.ensures ∙ said_whole _ c.short-rule.result.now.short.field c.index-blobs-short.result c.plain_start-start.result (whole d).word);
      sign = λ some. c.short-rule.ensures.sign leads;
      uncounted = λ some. c.short-rule.ensures.uncounted leads;
    }

-- ---- whole bytes in blocks

blocks : (c : After-block_start-start) → IsBlockWide c.short-rule.result.now.short (length (get_or c.args.blobs.now c.short-rule.result.now.short.blob [])) c.args.row
blocks c = (wide_seen c.requires.laid c.short-rule.ensures.wide).blocks c.args.row c.if-row-rule-2.true

at_blocks : (c : After-block_start-start) → StandsIn c.args.map.now c.args.row c.args.leaf c.short-rule.result.now.short c.block_start-start.result c.args.blobs.now
at_blocks c =
    stands c.args.map.now.holds c.args.row c.args.leaf c.laws_of.ensures.lawful c.laws_of.ensures.paired c.requires.row_in c.requires.leaf_in
    (c.short-rule.ensures.form (blocks_lead _ (blocks c).walk)) c.block_start-start.result c.block_start-start.ensures c.args.blobs.now c.requires.laid.sized (blocks c).word.alone

pub block_start-start-requires : goal.block_start-start-requires
block_start-start-requires c =
    let wide = (wide_seen c.requires.laid c.short-rule.ensures.wide).blocks c.args.row c.if-row-rule-2.true in
    record { blocks = wide.walk; start = (c.short-rule.ensures.form (blocks_lead _ wide.walk)).starts c.args.row c.requires.row_in }

pub bounds-blobs-short-then-row-rule-2 : goal.bounds-blobs-short-then-row-rule-2
bounds-blobs-short-then-row-rule-2 c = blob_there (at_blocks (goal.at.bounds-blobs-short-then-row-rule-2 c).After-block_start-start)

pub offset_bounds-blobs-short-then-row-rule-2 : goal.offset_bounds-blobs-short-then-row-rule-2
offset_bounds-blobs-short-then-row-rule-2 c = omega (arith, blob_there (at_blocks (goal.at.offset_bounds-blobs-short-then-row-rule-2 c).After-block_start-start))

pub whole_wide-requires-then-row-rule-2-clause-room : goal.whole_wide-requires-then-row-rule-2-clause-room
whole_wide-requires-then-row-rule-2-clause-room c =
    let d = (goal.at.whole_wide-requires-then-row-rule-2-clause-room c).After-block_start-start in
    room_at _ _ _ _ (blob_is (at_blocks d) _ _ c.index-blobs-short-then-row-rule-2.is) c.block_start-start.ensures (blocks d).room

pub returns-then-row-rule-2 : goal.returns-then-row-rule-2
returns-then-row-rule-2 c =
    let d = (goal.at.returns-then-row-rule-2 c).After-block_start-start in
    let leads = blocks_lead _ (blocks d).walk in
    record {
      value = to_z-of_z w128 c.whole_wide-then-row-rule-2.result (search rules)
          ∙ word_read (at_blocks d) c.index-blobs-short-then-row-rule-2.result c.whole_wide-then-row-rule-2.result (blob_is (at_blocks d) _ _ c.index-blobs-short-then-row-rule-2.is)
          (c.whole_wide-then-row-rule-2.ensures ∙ said_whole _ c.short-rule.result.now.short.field c.index-blobs-short-then-row-rule-2.result c.block_start-start.result (blocks d).word);
      sign = λ some. c.short-rule.ensures.sign leads;
      uncounted = λ some. c.short-rule.ensures.uncounted leads;
    }

-- ---- whole bytes in reverse order

turned : (c : After-plain_start-start-then-row-rule-3) → IsTurnedWide c.short-rule.result.now.short (length (get_or c.args.blobs.now c.short-rule.result.now.short.blob [])) c.args.row
turned c = (wide_seen c.requires.laid c.short-rule.ensures.wide).turned c.args.row c.if-row-rule-3.true

at_turned : (c : After-plain_start-start-then-row-rule-3) → StandsIn c.args.map.now c.args.row c.args.leaf c.short-rule.result.now.short c.plain_start-start-then-row-rule-3.result c.args.blobs.now
at_turned c =
    stands c.args.map.now.holds c.args.row c.args.leaf c.laws_of.ensures.lawful c.laws_of.ensures.paired c.requires.row_in c.requires.leaf_in
    (c.short-rule.ensures.form (plain_leads _ (turned c).walk)) c.plain_start-start-then-row-rule-3.result c.plain_start-start-then-row-rule-3.ensures c.args.blobs.now c.requires.laid.sized (turned c).word.alone

pub plain_start-start-requires-then-row-rule-3 : goal.plain_start-start-requires-then-row-rule-3
plain_start-start-requires-then-row-rule-3 c =
    let wide = (wide_seen c.requires.laid c.short-rule.ensures.wide).turned c.args.row c.if-row-rule-3.true in
    record { plain = wide.walk; start = (c.short-rule.ensures.form (plain_leads _ wide.walk)).starts c.args.row c.requires.row_in }

pub bounds-blobs-short-then-row-rule-3 : goal.bounds-blobs-short-then-row-rule-3
bounds-blobs-short-then-row-rule-3 c = blob_there (at_turned (goal.at.bounds-blobs-short-then-row-rule-3 c).After-plain_start-start-then-row-rule-3)

pub offset_bounds-blobs-short-then-row-rule-3 : goal.offset_bounds-blobs-short-then-row-rule-3
offset_bounds-blobs-short-then-row-rule-3 c = omega (arith, blob_there (at_turned (goal.at.offset_bounds-blobs-short-then-row-rule-3 c).After-plain_start-start-then-row-rule-3))

pub turned_wide-requires-clause-turned : goal.turned_wide-requires-clause-turned
turned_wide-requires-clause-turned c = turned_is c.short-rule.result.now.short.field.width ((wide_seen c.requires.laid c.short-rule.ensures.wide).turned c.args.row c.if-row-rule-3.true).word.bytes

pub turned_wide-requires-clause-room : goal.turned_wide-requires-clause-room
turned_wide-requires-clause-room c =
    let d = (goal.at.turned_wide-requires-clause-room c).After-plain_start-start-then-row-rule-3 in
    room_at _ _ _ _ (blob_is (at_turned d) _ _ c.index-blobs-short-then-row-rule-3.is) c.plain_start-start-then-row-rule-3.ensures (turned d).room

pub returns-then-row-rule-3 : goal.returns-then-row-rule-3
returns-then-row-rule-3 c =
    let d = (goal.at.returns-then-row-rule-3 c).After-plain_start-start-then-row-rule-3 in
    let leads = plain_leads _ (turned d).walk in
    record {
      value = to_z-of_z w128 c.turned_wide.result (search rules)
          ∙ word_read (at_turned d) c.index-blobs-short-then-row-rule-3.result c.turned_wide.result (blob_is (at_turned d) _ _ c.index-blobs-short-then-row-rule-3.is)
          (c.turned_wide.ensures ∙ said_by c.short-rule.result.now.short.word c.short-rule.result.now.short.field c.index-blobs-short-then-row-rule-3.result c.plain_start-start-then-row-rule-3.result
          (λ k. 8 * c.plain_start-start-then-row-rule-3.result + turned_place c.short-rule.result.now.short.field.width k) (turned d).word.signed (turned d).word.wide ((turned d).word.place c.plain_start-start-then-row-rule-3.result));
      sign = λ some. c.short-rule.ensures.sign leads;
      uncounted = λ some. c.short-rule.ensures.uncounted leads;
    }

-- ---- fields

field : (c : After-plain_start-start-then-row-rule-4) → IsFieldWide c.short-rule.result.now.short (length (get_or c.args.blobs.now c.short-rule.result.now.short.blob [])) c.args.row
field c = (wide_seen c.requires.laid c.short-rule.ensures.wide).field c.args.row c.if-row-rule-4.true

at_field : (c : After-plain_start-start-then-row-rule-4) → StandsIn c.args.map.now c.args.row c.args.leaf c.short-rule.result.now.short c.plain_start-start-then-row-rule-4.result c.args.blobs.now
at_field c =
    stands c.args.map.now.holds c.args.row c.args.leaf c.laws_of.ensures.lawful c.laws_of.ensures.paired c.requires.row_in c.requires.leaf_in
    (c.short-rule.ensures.form (plain_leads _ (field c).walk)) c.plain_start-start-then-row-rule-4.result c.plain_start-start-then-row-rule-4.ensures c.args.blobs.now c.requires.laid.sized (field_alone c.short-rule.result.now.short.word (field c).word)

pub plain_start-start-requires-then-row-rule-4 : goal.plain_start-start-requires-then-row-rule-4
plain_start-start-requires-then-row-rule-4 c =
    let wide = (wide_seen c.requires.laid c.short-rule.ensures.wide).field c.args.row c.if-row-rule-4.true in
    record { plain = wide.walk; start = (c.short-rule.ensures.form (plain_leads _ wide.walk)).starts c.args.row c.requires.row_in }

pub bounds-blobs-short-then-row-rule-4 : goal.bounds-blobs-short-then-row-rule-4
bounds-blobs-short-then-row-rule-4 c = blob_there (at_field (goal.at.bounds-blobs-short-then-row-rule-4 c).After-plain_start-start-then-row-rule-4)

pub offset_bounds-blobs-short-then-row-rule-4 : goal.offset_bounds-blobs-short-then-row-rule-4
offset_bounds-blobs-short-then-row-rule-4 c = omega (arith, blob_there (at_field (goal.at.offset_bounds-blobs-short-then-row-rule-4 c).After-plain_start-start-then-row-rule-4))

pub field_wide-requires-clause-narrow : goal.field_wide-requires-clause-narrow
field_wide-requires-clause-narrow c = ((wide_seen c.requires.laid c.short-rule.ensures.wide).field c.args.row c.if-row-rule-4.true).narrow

pub field_wide-requires-clause-room : goal.field_wide-requires-clause-room
field_wide-requires-clause-room c =
    let d = (goal.at.field_wide-requires-clause-room c).After-plain_start-start-then-row-rule-4 in
    room_by_bit _ _ _ _ (blob_is (at_field d) _ _ c.index-blobs-short-then-row-rule-4.is) c.plain_start-start-then-row-rule-4.ensures (field d).room

pub returns-then-row-rule-4 : goal.returns-then-row-rule-4
returns-then-row-rule-4 c =
    let d = (goal.at.returns-then-row-rule-4 c).After-plain_start-start-then-row-rule-4 in
    let leads = plain_leads _ (field d).walk in
    record {
      value = to_z-of_z w128 c.field_wide.result (search rules)
          ∙ word_read (at_field d) c.index-blobs-short-then-row-rule-4.result c.field_wide.result (blob_is (at_field d) _ _ c.index-blobs-short-then-row-rule-4.is)
          (c.field_wide.ensures ∙ said_field _ c.short-rule.result.now.short.field c.index-blobs-short-then-row-rule-4.result c.plain_start-start-then-row-rule-4.result (field d).word);
      sign = λ some. c.short-rule.ensures.sign leads;
      uncounted = λ some. c.short-rule.ensures.uncounted leads;
    }
