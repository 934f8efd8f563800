use Rattle.leaf_places.proofs.Imports.{◌≡◌, Bool, refl, ap, sym, ◌∙◌, subst, arith, length, List, [], get_or, indices, Owner, Scattered, is_field, IsForm}
use Rattle.leaf_places.proofs.Placing.{cell_in, hold_of, listed, placed}
use Rattle.leaf_places.proofs.Shorts.{short_form, short_owned}
use Rattle.leaf_places.proofs.find.short_places.Goals as goal

pub short-requires : goal.short-requires
short-requires c = cell_in c.args.view.now c.args.leaf _ c.map-map.ensures.cells c.requires.leaf_in

pub returns : goal.returns
returns c =
    let map = c.map-map.ensures in
    let table = c.args.view.now in
    let leaf = c.args.leaf in
    let short = c.short.result.now.short in
    let hold = c.hold-hold.result in
    let alone : short.word ≡ Scattered → ⊥ = grind (arith, goal.in-Scattered, goal.in_default) in
    let are = c.in_ok-groups.ensures in
    let is = c.short.ensures.form are.leads in
    let list = listed table leaf hold _ map.holds c.hold-hold.ensures in
    let rows_are = c.count.ensures.rows ∙ ap (λ es. length (indices es)) c.extents.ensures.value ∙ sym map.slots in
    let form = short_form _ _ leaf _ hold _ short is list (omega (arith, cell_in table leaf _ map.cells c.requires.leaf_in, c.laws_of.ensures.paired)) alone _ rows_are
    c.in_ok-groups.groups are in
    let owned = short_owned _ _ leaf _ hold _ short is list (omega (arith, cell_in table leaf _ map.cells c.requires.leaf_in, c.laws_of.ensures.paired)) alone _ rows_are
    c.in_ok-groups.groups are in
    placed table leaf c.requires.leaf_in c.requires.direct _ hold (hold_of table leaf hold _ map.holds c.hold-hold.ensures) refl refl
    (omega (arith, c.if-blob-blob_count.false, c.blob_count.ensures, ap (length {A = List Owner}) map.layout))
    (c.blob_bytes.ensures ∙ ap (λ (l : List (List Owner)). length (get_or l short.blob [])) map.layout) are.some
    (subst (λ (b : Bool). IsForm b c.is_turned.result hold.width) (sym c.is_field.ensures) (subst (λ (t : Bool). IsForm (is_field short.word) t hold.width) (sym c.is_turned.ensures) form))
    (λ row k inside below. grind arith)
