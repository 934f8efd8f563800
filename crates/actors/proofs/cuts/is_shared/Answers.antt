use Rattle.actors.proofs.Lemmas.{map, actor_of, owner_shown, shared_is}
use Rattle.actors.proofs.cuts.is_shared.Goals as goal

pub loop-owner-init : goal.loop-owner-init
loop-owner-init c = record { so_far = shared_is (actor_of c.args.cuts.now) (map owner_shown c.args.owners.now) }
