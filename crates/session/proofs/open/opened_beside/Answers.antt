use Rattle.session.proofs.Lemmas.{map, Table, view_of, placed_gives, placed_refused}
use Rattle.session.proofs.open.opened_beside.Goals as goal

pub returns-in-Ok : goal.returns-in-Ok
returns-in-Ok g c = placed_gives (map view_of c.args.views.now) c.args.bytes.now c.in-Ok.view (λ (view : Table). view) c.with_room.result c.in-Ok.ensures.read c.with_room.ensures

pub returns-in-Err : goal.returns-in-Err
returns-in-Err g c = placed_refused (map view_of c.args.views.now) c.args.bytes.now c.in-Err.fault c.file_fault.result c.file_fault.ensures c.in-Err.ensures.read
