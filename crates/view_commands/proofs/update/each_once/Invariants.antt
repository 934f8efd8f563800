use Rattle.view_commands.proofs.Imports.{map, setting_of, leaves_of}
use Rattle.view_commands.proofs.Sets.{IsOnce}
use Rattle.view_commands.proofs.update.each_once.Given as goal

abbrev pub invariant-loop-place : goal.invariant-loop-place
invariant-loop-place l = IsOnce l.view.fields (leaves_of (map setting_of l.sets)) l.place
