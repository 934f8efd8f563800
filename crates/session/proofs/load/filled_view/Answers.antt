use Rattle.view_commands.specs.ExitsLaws.{goes_gives}
use Rattle.session.proofs.load.filled_view.Goals as goal

pub returns-in-Err : goal.returns-in-Err
returns-in-Err g c = goes_gives _ _ _ c.in-Err.fault c.in_ok-extents.ensures.extents (goes_gives _ _ _ c.in-Err.fault c.in_ok-view.ensures.made c.in-Err.ensures)
