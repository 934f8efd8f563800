-- The first byte of some pieces, and of one piece more.
use Rattle.actor_tasks.proofs.Imports.{◌≡◌, ℕ, zero, suc, ◌+◌, ◌<◌, List, [], ◌∷◌, length, get_or, take, Option, subst, ⊎_elim, inl, inr, arith, ◌⊎◌, Piece, Place, ComesFrom, Touches, AnyTouches, IsFound, IsNext, IsEarlier}

comes_through : (one two three : Place) → ComesFrom one two → ComesFrom two three → ComesFrom one three
comes_through one two three first second = grind (arith, ⊎_elim)

module _ (P Q W : Place → Type 0) (to : (s : Place) → W s → P s ⊎ Q s) (from_first : (s : Place) → P s → W s) (from_second : (s : Place) → Q s → W s) (from : Place) where
  both_found : (one two : Place) → IsFound P from one → IsFound Q from two → ComesFrom one two → IsFound W from one
  both_found one two first second order = grind (arith, ⊎_elim, comes_through)

  both_found' : (one two : Place) → IsFound P from one → IsFound Q from two → ComesFrom two one → IsFound W from two
  both_found' one two first second order = grind (arith, ⊎_elim, comes_through)

  pub joined : (one two result : Option Place) → IsNext P from one → IsNext Q from two → IsEarlier one two result → IsNext W from result
  joined one two result first second is = grind (arith, ⊎_elim, both_found, both_found')

more_left : (pieces : List Piece) (k : ℕ) (s : Place) → AnyTouches (take k pieces) s → AnyTouches (take (suc k) pieces) s
more_left [] zero s any = any
more_left [] (suc k) s any = any
more_left (p ∷ ps) zero s any = absurd any
more_left (p ∷ ps) (suc k) s any = ⊎_elim (λ (t : Touches p s). inl t) (λ (rest : AnyTouches (take k ps) s). inr (more_left ps k s rest)) any

more_here : (pieces : List Piece) (k : ℕ) (d : Piece) (s : Place) → k < length pieces → Touches (get_or pieces k d) s → AnyTouches (take (suc k) pieces) s
more_here [] k d s low t = absurd (omega (arith, low))
more_here (p ∷ ps) zero d s low t = inl t
more_here (p ∷ ps) (suc k) d s low t = inr (more_here ps k d s (omega (arith, low)) t)

more_either : (pieces : List Piece) (k : ℕ) (d : Piece) (s : Place) → k < length pieces → AnyTouches (take (suc k) pieces) s → AnyTouches (take k pieces) s ⊎ Touches (get_or pieces k d) s
more_either [] k d s low any = absurd (omega (arith, low))
more_either (p ∷ ps) zero d s low any = ⊎_elim (λ (t : Touches p s). inr t) (λ (none : ⊥). absurd none) any
more_either (p ∷ ps) (suc k) d s low any =
    ⊎_elim (λ (t : Touches p s). inl (inl t))
    (λ (rest : AnyTouches (take (suc k) ps) s).
    ⊎_elim (λ (before : AnyTouches (take k ps) s). inl (inr before)) (λ (t : Touches (get_or ps k d) s). inr t) (more_either ps k d s (omega (arith, low)) rest)) any

-- one piece more
pub next_more : (pieces : List Piece) (k : ℕ) (d : Piece) (from : Place) (before here result : Option Place) → k < length pieces → IsNext (AnyTouches (take k pieces)) from before
    → IsNext (Touches (get_or pieces k d)) from here → IsEarlier before here result → IsNext (AnyTouches (take (k + 1) pieces)) from result
next_more pieces k d from before here result low first second is =
    let one : suc k ≡ k + 1 = omega arith in
    subst (λ (n : ℕ). IsNext (AnyTouches (take n pieces)) from result) one
    (joined (AnyTouches (take k pieces)) (Touches (get_or pieces k d)) (AnyTouches (take (suc k) pieces))
    (λ s any. more_either pieces k d s low any) (λ s any. more_left pieces k s any) (λ s t. more_here pieces k d s low t) from before here result first second is)
