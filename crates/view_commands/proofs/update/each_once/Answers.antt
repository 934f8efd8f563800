use Rattle.view_commands.proofs.Imports.{arith, ◌<◌, ◌∙◌, ◌≤◌, length, map, refl, setting_of, leaf_count_of, leaves_of, common_steps}
use Rattle.view_commands.proofs.Sets.{once_none, once_more, once_stop, once_all, once_few, leaf_at, leaves_below, leaves_long, test_at}
use Rattle.view_commands.proofs.update.each_once.Goals as goal

pub loop-place-init : goal.loop-place-init
loop-place-init c = once_none c.args.view.now.fields (leaves_of (map setting_of c.args.sets.now))

pub returns-then-is_set-clause-once : goal.returns-then-is_set-clause-once
returns-then-is_set-clause-once c =
    let fields = c.args.view.now.fields in
    let sets = c.args.sets.now in
    let one = c.index-sets-place.result in
    let small : c.loop-place.place < length (leaves_of (map setting_of sets)) = rw leaves_long c.loop-place-test.true in
    let again = test_at sets _ c.loop-place.place one _ c.loop-place-test.true c.index-sets-place.is refl c.is_set.ensures ∙ c.if-is_set.true in
    grind (arith, once_stop, leaf_at)

pub loop-place-preserved : goal.loop-place-preserved
loop-place-preserved c =
    let sets = c.args.sets.now in
    let one = c.index-sets-place.result in
    let small : c.loop-place.place < length (leaves_of (map setting_of sets)) = rw leaves_long c.loop-place-test.true in
    let fresh = test_at sets _ c.loop-place.place one _ c.loop-place-test.true c.index-sets-place.is refl c.is_set.ensures ∙ c.if-is_set.false in
    once_more c.args.view.now.fields (leaves_of (map setting_of sets)) c.loop-place.place small fresh c.loop-place.invariant

pub returns-clause-once : goal.returns-clause-once
returns-clause-once c = grind (arith, common_steps, leaves_long, once_all)

pub returns-clause-few : goal.returns-clause-few
returns-clause-few c =
    let leaves = leaves_of (map setting_of c.args.sets.now) in
    let over : length leaves ≤ c.loop-place.place = rw leaves_long (omega arith) in
    let most : leaf_count_of c.args.view.now ≤ 64 = rw (c.leaf_count-leaves.ensures.value, c.schema.ensures.value) at c.leaf_count-leaves.ensures.few in
    let few = once_few c.args.view.now.fields leaves c.loop-place.place (leaf_count_of c.args.view.now) over c.loop-place.invariant (leaves_below c.args.view.now c.args.sets.now c.requires) in
    omega (arith, few, leaves_long c.args.sets.now, most)
