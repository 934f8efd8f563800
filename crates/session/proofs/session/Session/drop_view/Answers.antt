use Rattle.session.proofs.Imports.{ap, sym, ◌∙◌, map, List, [], Table, drop_view, some_or, Entry, Unknown, Name, view_of, goes_then, IsAt, without_is, world_of, Ok}
use Rattle.session.proofs.session.Session.drop_view.Goals as goal

pub returns : goal.returns
unfolding drop_view
returns c =
    let at : IsAt view_of c.args.name c.args.self.views.items c.in_ok-place.place = rw c.as_slice.ensures.value at c.in_ok-place.ensures.at in
    let known_is = ap (some_or (Unknown (Name c.args.name))) (at.is c.remove-dropped.result) in
    let gone = at.gone ∙ ap (map view_of) (without_is c.args.self.views.items c.in_ok-place.place at.inside ∙ sym c.remove-dropped.ensures.by_index.2) in
    goes_then _ _ _ known_is ∙ ap (λ (views : List (Entry Table)). Ok (record { held = record (world_of c.args.self) { views = views }; text = [] })) gone
