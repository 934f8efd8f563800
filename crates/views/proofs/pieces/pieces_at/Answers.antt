use Rattle.views.proofs.Lemmas.{◌≡◌, arith, piece_count, one_piece}
use Rattle.views.proofs.pieces.pieces_at.Goals as goal

pub returns : goal.returns
returns c =
    let a = c.args in
    let is : c.min-count.result ≡ piece_count a.end a.one a.two a.slot = omega arith in
    one_piece a.one a.two a.end a.slot c.min-count.result c.requires.first c.requires.second c.requires.slot_in is
