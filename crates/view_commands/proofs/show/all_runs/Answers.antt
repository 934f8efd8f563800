use Rattle.view_commands.proofs.Imports.{◌≡◌, All, length, sym, subst, length-map, leaves, owners_of, leaf_types_of, logs_more, common_steps, arith}
use Rattle.view_commands.proofs.Runs.{IsRunBelow, runs_below}
use Rattle.view_commands.proofs.show.all_runs.Goals as goal

pub loop-blob-preserved : goal.loop-blob-preserved
loop-blob-preserved c = grind (arith, common_steps, logs_more)

pub returns-clause-leaves : goal.returns-clause-leaves
returns-clause-leaves c =
    let view = c.args.view.now in
    let count : length (leaf_types_of view) ≡ length (leaves view.fields) = length-map (leaves view.fields) (λ leaf. leaf.kind) in
    subst (λ (n : _). All (IsRunBelow n) c.loop-blob.runs) count
    (subst (All (IsRunBelow (length (leaf_types_of view)))) (sym c.loop-blob.invariant)
    (runs_below _ (owners_of view) _ _ _ (leaf_types_of view) _ c.laws_of.ensures.lawful c.laws_of.ensures.paired c.map-map.ensures.cells c.map-map.ensures.layout))
