use Rattle.actors.proofs.Lemmas.{◌≡◌, ◌<◌, ◌∙◌, ℕ, List, SFits, rules, subst, ap, w128, to_z-of_z, IsWrite, bit_in, byte_at, with_byte, arith, byte_changed}
use Rattle.actors.proofs.memory.changed_byte.Goals as goal

pub returns-clause-byte : goal.returns-clause-byte
returns-clause-byte g c =
    let old = c.args.scratch.now.items in
    let new = c.write_bits.new.blobs.items in
    let place = c.args.place in
    let layout = g.M.Mapping.layout c.args.mapping.now in
    let read : c.byte_at.result ≡ byte_at new place = c.byte_at.ensures ∙ ap (λ (w : List (List ℕ)). byte_at w place) c.deref.ensures.value in
    let fits : c.byte_at.result < 256 = search rules in
    let value_fits : SFits w128 c.args.value = search rules in
    let written : IsWrite layout c.args.row c.args.leaf c.args.value (bit_in (with_byte old place c.args.byte)) (bit_in new) =
    grind (arith, to_z-of_z) in
    read ∙ byte_changed layout c.args.row c.args.leaf c.args.value old new place c.args.byte c.requires.place written (subst (λ (n : ℕ). n < 256) read fits)
