-- Expressions with deeper brackets.
use Rattle.std.specs.Prelude.{◌≤◌}
use Rattle.line_phrases.specs.Imports.{ℕ, zero, suc, Option, refl, inr, arith, Grammar, Under, equal, empty, behind, either, repeats, fewer, is_same, Value, atom_within, bracketed, chain, choice, comparison, conjunction, expr_over, leaf, links, negation, prefixed, product, sum, unary, joined, BinOp, Token}

abbrev Deeper : ℕ → Grammar Token Value → Grammar Token Value → Type 1
Deeper n one more = Under is_same Value n one more

chain_under : (operator : Token → Option BinOp) {n : ℕ} {one more : Grammar Token Value} → Deeper n one more → Deeper n (chain operator one) (chain operator more)
unfolding chain links
chain_under operator u = joined u (λ left. repeats (λ a t. refl) (λ a. joined equal (λ op. joined u (λ right. equal))))

prefixed_under : (token : Token) (wrap : Value → Value) {n : ℕ} {one more : Grammar Token Value} → Deeper n one more → Deeper n (prefixed token wrap one) (prefixed token wrap more)
unfolding prefixed
prefixed_under token wrap u = joined equal (λ k. joined u (λ value. equal))

sum_under : {n : ℕ} {one more : Grammar Token Value} → Deeper n one more → Deeper n (sum one) (sum more)
unfolding sum product unary
sum_under u = chain_under _ (chain_under _ (prefixed_under _ _ u))

over_under : {n : ℕ} {one more : Grammar Token Value} → Deeper n one more → Deeper n (expr_over one) (expr_over more)
unfolding expr_over conjunction negation comparison
over_under u = let s = sum_under u in
    chain_under _ (chain_under _ (prefixed_under _ _ (joined s (λ left. either (λ t. refl) (joined equal (λ op. joined s (λ right. equal))) equal))))

bracketed_under : {n : ℕ} {one more : Grammar Token Value} → Deeper n one more → Deeper (suc n) (bracketed one) (bracketed more)
unfolding bracketed
bracketed_under u = behind (joined u (λ value. equal))

choice_under : {n : ℕ} {one more : Grammar Token Value} → Deeper n one more → Deeper (suc n) (choice one) (choice more)
unfolding choice
choice_under u = joined equal (λ op. behind (joined u (λ left. fewer (behind (joined u (λ right. equal))))))

atom_under : (n m : ℕ) → n ≤ m → Deeper n (atom_within n) (atom_within m)
unfolding atom_within leaf bracketed choice
atom_under zero zero le = equal
atom_under zero (suc m) le = empty (λ xs v h. inr (inr h)) refl
atom_under (suc n) zero le = absurd (omega arith)
atom_under (suc n) (suc m) le = let u = over_under (atom_under n m (omega arith)) in either (λ t. refl) (bracketed_under u) (either (λ t. refl) (choice_under u) equal)

pub expr_under : (n m : ℕ) → n ≤ m → Deeper n (expr_over (atom_within n)) (expr_over (atom_within m))
expr_under n m le = over_under (atom_under n m le)
