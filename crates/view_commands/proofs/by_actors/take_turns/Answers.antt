use Rattle.view_commands.proofs.Imports.{◌≡◌, ◌∙◌, ◌+◌, ◌-◌, ◌/◌, ◌%◌, ℕ, suc, [], ◌∷◌, ap, arith, next, after_turns}
use Rattle.view_commands.proofs.Acting.{turn_more}
use Rattle.view_commands.proofs.by_actors.take_turns.Goals as goal

pub loop-turn-preserved : goal.loop-turn-preserved
loop-turn-preserved c =
    let run = c.loop-turn.run in
    let actors = c.args.actors in
    let x = c.loop-turn.x in
    let left = c.args.turns - (c.loop-turn._turn + 1) in
    let one : c.args.turns - c.loop-turn._turn ≡ suc left = omega (arith, c.loop-turn-test.true) in
    let turned : c.turn-moved.new.self ≡ after_turns run ((next x / 65536) % actors ∷ []) =
    c.turn-moved.ensures.turned ∙ ap (λ (y : ℕ). after_turns run ((y / 65536) % actors ∷ [])) c.next-x.ensures.next in grind (arith, turn_more)
