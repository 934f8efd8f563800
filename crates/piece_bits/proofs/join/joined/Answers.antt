use Rattle.piece_bits.proofs.Lemmas.{◌≡◌, ℕ, ◌+◌, List, ◌∷◌, drop, drop-cons, subst, arith, drop_all, PieceRule, Carries, rules_join}
use Rattle.piece_bits.proofs.join.joined.Goals as goal

pub loop-next-preserved : goal.loop-next-preserved
loop-next-preserved c =
    let rest : List PieceRule = c.in_ok-first.rest.now in
    let one : PieceRule = c.loop-next.one in
    let k : ℕ = c.loop-next.next-index in
    let next : PieceRule = c.next-item.result in
    let left : drop k rest ≡ next ∷ drop (k + 1) rest = grind (arith, drop-cons) in
    let before : Carries c.args.pieces.now (one ∷ drop k rest) = c.loop-next.invariant in
    let here : Carries c.args.pieces.now (one ∷ next ∷ drop (k + 1) rest) =
    subst (λ (xs : List PieceRule). Carries c.args.pieces.now (one ∷ xs)) left before in
    λ layout row cell width slot placed.
    rules_join one next c.in_ok-one.one (drop (k + 1) rest) c.in_ok-one.ensures layout row cell width slot (here layout row cell width slot placed)

pub returns : goal.returns
returns c =
    let rest : List PieceRule = c.in_ok-first.rest.now in
    let k : ℕ = c.loop-next.next-index in
    subst (λ (xs : List PieceRule). Carries c.args.pieces.now (c.loop-next.one ∷ xs)) (drop_all k rest (omega arith)) c.loop-next.invariant
