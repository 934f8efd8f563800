use Rattle.view_commands.proofs.Imports.{◌≡◌, ◌-◌, ◌<◌, ◌^◌, entries, schedule_of, after_turns}
use Rattle.view_commands.proofs.by_actors.take_turns.Given as goal

abbrev pub invariant-loop-turn : goal.invariant-loop-turn
invariant-loop-turn l = record {
  turns : after_turns l.run (entries l.actors (l.turns - l._turn) l.x) ≡ after_turns l.initial.run (schedule_of l.actors l.seed l.turns);
  found : l.run.found ≡ l.initial.run.found;
  cuts : l.run.cuts ≡ l.initial.run.cuts;
  below : l.x < 2 ^ 31;
}
