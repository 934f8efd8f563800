-- What a line does to a world.
use Rattle.worlds.specs.Imports.{Bool, List, Option, Some, None, File}
use Rattle.line_grammar.specs.Sentences as line
use Rattle.worlds.specs.Worlds.{World}
use Rattle.worlds.specs.Outcomes.{Tested, Outcome, Left, sure}
use Rattle.worlds.specs.OnView.{Reads, Shows, Changes, OnView, worked}
use Rattle.worlds.specs.Define.{define}
use Rattle.worlds.specs.Mapping.{mapping}
use Rattle.worlds.specs.View.{view}
use Rattle.worlds.specs.Load.{load}
use Rattle.worlds.specs.Assign.{assigned}
use Rattle.worlds.specs.Update.{updated}
use Rattle.worlds.specs.Actors.{updated_by_actors}
use Rattle.worlds.specs.Windows.{print_window}
use Rattle.worlds.specs.Stencil.{stencil_run}
use Rattle.worlds.specs.Advise.{advise}
use Rattle.worlds.specs.Tables.{live_bits}
use Rattle.worlds.specs.Reduce.{reduction, counting}
use Rattle.worlds.specs.Copy.{copy, relayout}
use Rattle.worlds.specs.Kernel.{kernel_run}
use Rattle.worlds.specs.Show.{showing, bytes, drop_view}
use Rattle.worlds.specs.Files.{save, open_view}

-- what a line does that works on one view; a stencil is told how much all views take, and an advice what names stand for
abbrev pub work_of : World → line.Sentence → Option OnView
work_of world (line.Assign name index path value) = Some (record { view = name; work = Changes (λ table. assigned table index path value) })
work_of world (line.Update name filter sets) = Some (record { view = name; work = Changes (λ table. updated table filter sets) })
work_of world (line.Actors name filter sets cuts seed turns) = Some (record { view = name; work = Changes (λ table. updated_by_actors table filter sets cuts seed turns) })
work_of world (line.Kernel name text lanes) = Some (record { view = name; work = Changes (λ table. kernel_run table text lanes) })
work_of world (line.Reduce name kind path) = Some (record { view = name; work = Reads (λ content. reduction content kind path) })
work_of world (line.Count name filter) = Some (record { view = name; work = Reads (λ content. counting content filter) })
work_of world (line.Show kind name) = Some (record { view = name; work = showing kind })
work_of world (line.Bytes name blob) = Some (record { view = name; work = Shows (λ table. bytes table blob) })
work_of world (line.Save name) = Some (record { view = name; work = Shows save })
work_of world (line.PrintWindow name spans) = Some (record { view = name; work = Reads (λ content. print_window content spans) })
work_of world (line.Stencil name spans path texts divisor rounds) =
    Some (record { view = name; work = Changes (λ table. stencil_run (live_bits world.views) table spans path texts divisor rounds) })
work_of world (line.Advise name granule texts terms splits) = Some (record { view = name; work = Shows (λ table. advise world.mappings table granule texts terms splits) })
work_of world _ = None

-- what a line does that reads no file
abbrev pub done_by : World → line.Sentence → Tested Left
done_by world (line.Define name tree) = define world name tree
done_by world (line.Mapping name term) = mapping world name term
done_by world (line.View new) = view world new
done_by world (line.Copy name target) = copy world name target
done_by world (line.Relayout name term) = relayout world name term
done_by world (line.Drop name) = drop_view world name
done_by world sentence = worked world (work_of world sentence)

-- the command of a line over these files; `unread`: reading fails in this command
abbrev pub command : World → line.Sentence → List File → Bool → Outcome Left
command world (line.Load new file) files unread = load world new file files unread
command world (line.Open name file) files unread = open_view world name file files unread
command world sentence files unread = sure (done_by world sentence)

-- what a line does
unfoldable pub step : World → line.Sentence → List File → Bool → Outcome Left
step world sentence files unread = command world sentence files unread
