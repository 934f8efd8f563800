use Rattle.views.proofs.Imports.{◌≡◌, ◌∙◌, get_or, get_or_default, moved_bits, arith, []}
use Rattle.views.proofs.moves.move_between.Goals as goal

pub returns-clause-moved : goal.returns-clause-moved
returns-clause-moved g c =
    let a = c.args in
    let new = c.move_bytes.new.target in
    let here : c.index_mut.result.now ≡ get_or a.blobs.now.items a.target [] = c.index_mut.ensures.value ∙ get_or_default a.blobs.now.items a.target _ [] c.requires.target in
    let there : c.index-others-source.result ≡ get_or a.others.now a.source [] = c.index-others-source.is ∙ get_or_default a.others.now a.source _ [] c.requires.source in
    moved_bits a.others.now a.blobs.now.items a.source a.from a.target a.at a.len new c.requires.target
    (grind arith)
