use Rattle.leaf_places.proofs.Imports.{◌≡◌, ℕ, Bool, refl, ap, sym, ◌∙◌, subst, arith, length, List, [], get_or, Owner, within_blobs, Hold, IsForm, common_steps}
use Rattle.leaf_places.proofs.Leading.{sought_some}
use Rattle.leaf_places.proofs.Placing.{along_of, cell_in, hold_of, owned_so, placed, sought_of}
use Rattle.leaf_places.proofs.find.places_sought.Goals as goal

pub hold-hold-requires : goal.hold-hold-requires
hold-hold-requires c = cell_in c.args.view.now c.args.leaf _ c.map-map.ensures.cells c.requires.leaf_in

pub returns-then-not-is_form-clause-told : goal.returns-then-not-is_form-clause-told
returns-then-not-is_form-clause-told c places are even bits turned none =
    let hold = hold_of c.args.view.now c.args.leaf c.hold-hold.result _ c.map-map.ensures.holds c.hold-hold.ensures in
    let form = subst (λ (w : ℕ). IsForm c.args.in_bits c.args.is_turned w) (are.wide ∙ ap (λ (h : Hold). h.width) (sym hold))
    (subst (λ (t : Bool). IsForm c.args.in_bits t places.width) turned (subst (λ (b : Bool). IsForm b places.is_turned places.width) bits are.form)) in
    absurd (cc ((c.is_form.ensures.no form), c.if-not-is_form.true))

pub groups_sought-requires-clause-sought : goal.groups_sought-requires-clause-sought
groups_sought-requires-clause-sought c = grind (arith, common_steps, sought_of, cell_in)

pub returns-in_err-groups-clause-told : goal.returns-in_err-groups-clause-told
returns-in_err-groups-clause-told c places are even bits turned none =
    let hold = hold_of c.args.view.now c.args.leaf c.hold-hold.result _ c.map-map.ensures.holds c.hold-hold.ensures in
    let wide : places.width ≡ c.hold-hold.result.width = are.wide ∙ ap (λ (h : Hold). h.width) (sym hold) in
    c.in_err-groups.ensures.only places.blob places.base places.lanes places.lane places.block are.groups
    (along_of c.args.view.now c.args.leaf _ c.map-map.ensures.layout _ c.map-map.ensures.slots
    (record { leaf = c.args.leaf; width = c.hold-hold.result.width; is_turned = c.args.is_turned; in_bits = c.args.in_bits }) refl places are even bits turned wide) refl

pub blob_bytes-requires : goal.blob_bytes-requires
blob_bytes-requires c =
    let is = sought_of c.args.view.now c.args.leaf c.hold-hold.result _ c.map-map.ensures.holds c.hold-hold.ensures c.args.is_turned c.args.in_bits
    (omega (arith, cell_in c.args.view.now c.args.leaf _ c.map-map.ensures.cells c.requires.leaf_in, c.laws_of.ensures.paired)) (c.if-not-is_form.ensures.yes refl) in
    within_blobs _ c.in_ok-groups.groups.blob _ 0 c.args.leaf 0
    (c.in_ok-groups.ensures.stand 0 (omega (arith, c.requires.some, c.map-map.ensures.slots)) 0 (sought_some c.laws_of.ensures.lawful _ is))

pub returns-clause-places : goal.returns-clause-places
returns-clause-places c =
    let is = sought_of c.args.view.now c.args.leaf c.hold-hold.result _ c.map-map.ensures.holds c.hold-hold.ensures c.args.is_turned c.args.in_bits
    (omega (arith, cell_in c.args.view.now c.args.leaf _ c.map-map.ensures.cells c.requires.leaf_in, c.laws_of.ensures.paired)) (c.if-not-is_form.ensures.yes refl) in
    let inside = within_blobs _ c.in_ok-groups.groups.blob _ 0 c.args.leaf 0
    (c.in_ok-groups.ensures.stand 0 (omega (arith, c.requires.some, c.map-map.ensures.slots)) 0 (sought_some c.laws_of.ensures.lawful _ is)) in
    placed c.args.view.now c.args.leaf c.requires.leaf_in c.requires.direct _ c.hold-hold.result
    (hold_of c.args.view.now c.args.leaf c.hold-hold.result _ c.map-map.ensures.holds c.hold-hold.ensures) refl refl
    (omega (arith, inside, ap (length {A = List Owner}) c.map-map.ensures.layout))
    (c.blob_bytes.ensures ∙ ap (λ (l : List (List Owner)). length (get_or l c.in_ok-groups.groups.blob [])) c.map-map.ensures.layout) c.in_ok-groups.groups.some (c.if-not-is_form.ensures.yes refl)
    (grind (arith, owned_so))
