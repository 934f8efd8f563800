use Rattle.actors.proofs.Imports.{◌≡◌, ℕ, ◌+◌, ◌-◌, ◌*◌, map, take, drop, ap, ◌∙◌, arith, actor_of, is_shared, owner_shown}
use Rattle.actors.proofs.cuts.is_byte_shared.Goals as goal

pub returns : goal.returns
returns c =
    let size : 8 * c.args.byte + 8 - 8 * c.args.byte ≡ 8 = omega arith in
    c.is_shared.ensures ∙ ap (λ (n : ℕ). is_shared (actor_of c.args.cuts.now) (map owner_shown (take n (drop (8 * c.args.byte) c.args.owners.now)))) size
