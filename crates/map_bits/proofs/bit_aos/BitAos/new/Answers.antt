use Rattle.map_bits.proofs.Lemmas.{◌≡◌, ℕ, ◌*◌, ◌^◌, ◌<◌, ◌≤◌, List, ap, subst, ◌∙◌, rules, sum, up, Hold, narrow_holds, widths_in, LieInBits, big_slot, big_blob, not_too_big}
use Rattle.map_bits.proofs.bit_aos.BitAos.new.Goals as goal

pub returns-in_err-part-clause-too_big : goal.returns-in_err-part-clause-too_big
returns-in_err-part-clause-too_big c =
    let lent : c.deref.result.now ≡ narrow_holds c.args.widths.now c.args.cells.now = c.deref.ensures.value ∙ c.in_ok-holds.ensures ∙ ap (narrow_holds c.args.widths.now) c.as_slice-2.ensures in
    λ t.
    let long : 2 ^ 31 < sum (widths_in (narrow_holds c.args.widths.now c.args.cells.now)) =
    subst (λ (holds : List Hold). 2 ^ 31 < sum (widths_in holds)) lent (c.in_err-part.ensures.too_big (search rules)) in
    big_slot c.args.slots (widths_in (narrow_holds c.args.widths.now c.args.cells.now)) (search rules) long

pub returns-then-padded-gt-MAX_BLOB_BITS-clause-too_big :
    goal.returns-then-padded-gt-MAX_BLOB_BITS-clause-too_big
returns-then-padded-gt-MAX_BLOB_BITS-clause-too_big c =
    let lent : c.deref.result.now ≡ narrow_holds c.args.widths.now c.args.cells.now = c.deref.ensures.value ∙ c.in_ok-holds.ensures ∙ ap (narrow_holds c.args.widths.now) c.as_slice-2.ensures in
    let part = c.in_ok-part.part in
    let stored : LieInBits (widths_in (narrow_holds c.args.widths.now c.args.cells.now)) part.offsets.items part.size =
    subst (λ (holds : List Hold). LieInBits (widths_in holds) part.offsets.items part.size) lent c.in_ok-part.ensures.stored in
    let long : 2 ^ 31 < up 64 (c.args.slots * part.size) = subst (λ (n : ℕ). 2 ^ 31 < n) c.padded.ensures c.if-padded-gt-MAX_BLOB_BITS.true in
    λ _. big_blob c.args.slots (widths_in (narrow_holds c.args.widths.now c.args.cells.now)) part.offsets.items part.size stored long

pub returns-clause-fits : goal.returns-clause-fits
returns-clause-fits c =
    let lent : c.deref.result.now ≡ narrow_holds c.args.widths.now c.args.cells.now = c.deref.ensures.value ∙ c.in_ok-holds.ensures ∙ ap (narrow_holds c.args.widths.now) c.as_slice-2.ensures in
    let part = c.in_ok-part.part in
    let stored : LieInBits (widths_in (narrow_holds c.args.widths.now c.args.cells.now)) part.offsets.items part.size =
    subst (λ (holds : List Hold). LieInBits (widths_in holds) part.offsets.items part.size) lent c.in_ok-part.ensures.stored in
    let small : up 64 (c.args.slots * part.size) ≤ 2 ^ 31 = subst (λ (n : ℕ). n ≤ 2 ^ 31) c.padded.ensures c.if-padded-gt-MAX_BLOB_BITS.false in
    not_too_big c.args.slots (widths_in (narrow_holds c.args.widths.now c.args.cells.now)) part.offsets.items part.size (λ filled. stored) c.if-slots-gt-MAX_SLOTS.false small
