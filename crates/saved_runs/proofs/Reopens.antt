-- What a save writes is opened as the table that it saves.
use Rattle.saved_runs.proofs.Imports.{◌≡◌, ℕ, List, Some, Table, World, found, save, on_view, Left, step, known_found, RunsSavable, RunsReopen, SavedOpens, Ok, Told, Shows, does, arith}
use Rattle.saved_runs.proofs.Went.{went, sure_went, same_given}

-- the table that was saved, and what was done to it
record WasShown (world : World) (name text : List ℕ) : Type 0 where
  table : Table
  is : found name world.views ≡ Some table
  done : Told
  goes : save table ≡ Ok done
  shown : text ≡ done.text

was_shown : (world : World) (name : List ℕ) (left : Left) → on_view world name (does (Shows save)) ≡ Ok left → WasShown world name left.text
unfolding on_view
was_shown world name left goes = grind (arith, went, same_given, known_found)

pub runs_reopen : SavedOpens → RunsSavable → RunsReopen
unfolding step
runs_reopen opens savable texts lines files unread now name fails left are comes goes =
    let was = was_shown now.world name left (sure_went _ left goes) in
    let can = savable texts lines files unread now name was.table are comes was.is in grind arith
