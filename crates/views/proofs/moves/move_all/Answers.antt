use Rattle.views.proofs.Lemmas.{◌≡◌, ◌∙◌, ◌<◌, ℕ, List, [], length, get_or, sym, ap, arith, get_or_default, IsMoved, half_more, still_old, same_count, same_length, all_moved, blocks_more}
use Rattle.views.proofs.moves.move_all.Goals as goal

pub move_bytes-requires-clause-room : goal.move_bytes-requires-clause-room
move_bytes-requires-clause-room g c =
    let k : ℕ = c.loop-blob.blob in
    let old = c.args.blobs.now.items in
    let others = c.args.others.now in
    let count : length old ≡ length others = same_count old others c.requires.lengths in
    let inside : k < length others = omega (arith, c.loop-blob-test.true) in
    let was : c.index_mut.result.now ≡ get_or old k [] = still_old old others c.loop-blob.blobs.items k c.index_mut.result.now _ c.loop-blob.invariant.moved (sym count) inside c.index_mut.ensures.value in
    let other : c.index-others-blob.result ≡ get_or others k [] = c.index-others-blob.is ∙ get_or_default others k _ [] inside in
    omega (arith, c.len-len.ensures, ap (λ (b : List ℕ). length b) was, ap (λ (b : List ℕ). length b) other, same_length old others k c.requires.lengths (omega arith) inside)

pub loop-blob-preserved : goal.loop-blob-preserved
loop-blob-preserved g c =
    let k : ℕ = c.loop-blob.blob in
    let old = c.args.blobs.now.items in
    let others = c.args.others.now in
    let new = c.move_bytes.new.target in
    let count : length old ≡ length others = same_count old others c.requires.lengths in
    let inside : k < length others = omega (arith, c.loop-blob-test.true) in
    let was : c.index_mut.result.now ≡ get_or old k [] = still_old old others c.loop-blob.blobs.items k c.index_mut.result.now _ c.loop-blob.invariant.moved (sym count) inside c.index_mut.ensures.value in
    let read : c.index-others-blob.result ≡ get_or others k [] = c.index-others-blob.is ∙ get_or_default others k _ [] inside in
    let other : c.index-others-blob-in-loop-blob.result ≡ get_or others k [] = c.index-others-blob-in-loop-blob.is ∙ get_or_default others k _ [] inside in
    let len : c.len-len.result ≡ length (get_or others k []) = c.len-len.ensures ∙ ap (λ (b : List ℕ). length b) read in
    let moved : IsMoved (get_or old k []) 0 (get_or others k []) 0 c.len-len.result new = grind arith in
    let is : new ≡ get_or others k [] = all_moved (get_or old k []) (get_or others k []) new c.len-len.result len (same_length old others k c.requires.lengths (omega arith) inside) moved in
    grind (arith, half_more, blocks_more)
