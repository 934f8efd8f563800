use Rattle.extents.proofs.Imports.{◌≡◌, ◌≤◌, ◌∙◌, ap, length, map, arith, length-take, length-map, map_more, take_all, All-set, extent_of, padded, padded_more, IsStored_from}
use Rattle.extents.proofs.rows.Extents.of_words.Goals as goal
use Rattle.std.proofs.lemmas.Grind.{common_steps}

pub loop-d-preserved : goal.loop-d-preserved
loop-d-preserved c = grind (arith, common_steps, length-map, length-take, padded_more, map_more, All-set)

pub invariant_of-result : goal.invariant_of-result
invariant_of-result c =
    let ws = c.args.words.now in
    let over : length c.args.words.now ≤ c.loop-d.d = omega arith in
    let filled : c.loop-d.sizes ≡ padded (map (extent_of c.args.size) c.args.words.now) =
    c.loop-d.invariant.0 ∙ ap (λ xs. padded (map (extent_of c.args.size) xs)) (take_all c.loop-d.d c.args.words.now over) in
    IsStored_from (map (extent_of c.args.size) c.args.words.now) c.loop-d.sizes (length c.args.words.now) c.args.count filled
    (length-map c.args.words.now (extent_of c.args.size)) c.requires.ranked.0 c.requires.ranked.1 c.loop-d.invariant.1 c.requires.counted c.requires.few
