use Rattle.actors.proofs.Teams.{AreTeam}
use Rattle.actors.proofs.team.team_of.Given as goal

abbrev pub invariant-loop-cut : goal.invariant-loop-cut
invariant-loop-cut l = AreTeam l.view l.cuts l.row l.cut-index l.actors.items
