use Rattle.leaf_places.proofs.Imports.{List, map, slice_index, refl, sym, ◌∙◌, subst, arith, IsLocated, Piece, Hold}
use Rattle.leaf_places.proofs.Leading.{some_bits, as_many, stands_so, from_first, all_from, none_some, place_same}
use Rattle.leaf_places.proofs.sought.stand_of.Goals as goal

pub spot_in-first-requires-clause-inside : goal.spot_in-first-requires-clause-inside
spot_in-first-requires-clause-inside g c =
    let found = subst (λ (ps : List Piece). IsLocated (g.M.Mapping.layout c.args.mapping.now) c.args.row c.args.sought.leaf
    (slice_index (map (λ (h : Hold). h.width) (g.M.Mapping.hold_list c.args.mapping.now)) c.args.sought.leaf) ps) (sym c.as_slice-pieces.ensures.value) c.pieces_of-found.ensures.located in
    omega (
      arith,
      as_many c.laws_of.ensures.lawful c.args.sought c.args.row c.as_slice-pieces.result.now c.requires.sought found,
      c.low.ensures.inside (some_bits c.laws_of.ensures.lawful c.args.sought c.args.row c.as_slice-pieces.result.now c.requires.sought found),
    )

pub is_from-requires-clause-wide : goal.is_from-requires-clause-wide
is_from-requires-clause-wide g c =
    let found = subst (λ (ps : List Piece). IsLocated (g.M.Mapping.layout c.args.mapping.now) c.args.row c.args.sought.leaf
    (slice_index (map (λ (h : Hold). h.width) (g.M.Mapping.hold_list c.args.mapping.now)) c.args.sought.leaf) ps) (sym c.as_slice-pieces.ensures.value) c.pieces_of-found.ensures.located in
    as_many c.laws_of.ensures.lawful c.args.sought c.args.row c.as_slice-pieces.result.now c.requires.sought found

pub returns-then-not-is_from-clause-only : goal.returns-then-not-is_from-clause-only
returns-then-not-is_from-clause-only g c blob place stands =
    let lawful = c.laws_of.ensures.lawful in
    let pieces = c.as_slice-pieces.result.now in
    let found = subst (λ (ps : List Piece). IsLocated (g.M.Mapping.layout c.args.mapping.now) c.args.row c.args.sought.leaf
    (slice_index (map (λ (h : Hold). h.width) (g.M.Mapping.hold_list c.args.mapping.now)) c.args.sought.leaf) ps) (sym c.as_slice-pieces.ensures.value) c.pieces_of-found.ensures.located in
    let some = some_bits lawful c.args.sought c.args.row pieces c.requires.sought found in
    let due = c.is_from.ensures.no (all_from lawful c.args.sought c.args.row pieces c.requires.sought found c.low.result c.spot_in-first.result.blob c.spot_in-first.result.bit
    (c.low.ensures.inside some) c.low.ensures.first c.spot_in-first.ensures blob place stands) in
    absurd (cc (due, c.if-not-is_from.true))

pub returns-in_err-place-clause-only : goal.returns-in_err-place-clause-only
returns-in_err-place-clause-only g c blob place stands =
    let lawful = c.laws_of.ensures.lawful in
    let pieces = c.as_slice-pieces.result.now in
    let found = subst (λ (ps : List Piece). IsLocated (g.M.Mapping.layout c.args.mapping.now) c.args.row c.args.sought.leaf
    (slice_index (map (λ (h : Hold). h.width) (g.M.Mapping.hold_list c.args.mapping.now)) c.args.sought.leaf) ps) (sym c.as_slice-pieces.ensures.value) c.pieces_of-found.ensures.located in
    let some = some_bits lawful c.args.sought c.args.row pieces c.requires.sought found in
    let same = from_first lawful c.args.sought c.args.row pieces c.requires.sought found c.low.result c.spot_in-first.result.blob c.spot_in-first.result.bit
    (c.low.ensures.inside some) c.low.ensures.first c.spot_in-first.ensures blob place stands in
    absurd (none_some place (sym c.in_err-place.was ∙ c.place_of.ensures.only place (sym same.1)))

pub returns : goal.returns
returns g c =
    let lawful = c.laws_of.ensures.lawful in
    let pieces = c.as_slice-pieces.result.now in
    let found = subst (λ (ps : List Piece). IsLocated (g.M.Mapping.layout c.args.mapping.now) c.args.row c.args.sought.leaf
    (slice_index (map (λ (h : Hold). h.width) (g.M.Mapping.hold_list c.args.mapping.now)) c.args.sought.leaf) ps) (sym c.as_slice-pieces.ensures.value) c.pieces_of-found.ensures.located in
    let some = some_bits lawful c.args.sought c.args.row pieces c.requires.sought found in
    record {
      stands = stands_so lawful c.args.sought c.args.row pieces c.requires.sought found c.spot_in-first.result.blob c.spot_in-first.result.bit c.in_ok-place.place
          c.in_ok-place.ensures.begins (c.if-not-is_from.ensures.yes refl);
      only = λ blob place stands.
          (let same = from_first lawful c.args.sought c.args.row pieces c.requires.sought found c.low.result c.spot_in-first.result.blob c.spot_in-first.result.bit
          (c.low.ensures.inside some) c.low.ensures.first c.spot_in-first.ensures blob place stands in
          (same.0, place_same c.args.sought.in_bits c.in_ok-place.place place (c.in_ok-place.ensures.begins ∙ same.1)));
    }
