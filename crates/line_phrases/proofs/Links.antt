-- How the reading of a chain goes on, and of what stands in front of a value.
use Rattle.line_phrases.proofs.Imports.{◌≡◌, ℕ, suc, ◌+◌, true, false, List, Option, Some, Result, Ok, Err, refl, sym, ap, ◌∙◌, add-one, ◌>>=◌, starts, past, item_at, give_at, Shrinks, steps_end, steps_stepped, steps_stop, takes, behind, nothing, Grammar, BinOp, Binary, Token, is_same, Value, wrapped, read, link, links, signs, means, chain_behind, arith}

-- an operator and an operand more, an operator that is none, and no operator

module _ (operator : Token → Option BinOp) (one : Grammar Token Value) where
  shrinks : Shrinks (λ left. read (link operator one left))
  shrinks left tokens x e = takes is_same (link operator one left) refl tokens x e

  next_is : (left : Value) (tokens : List Token) (op : BinOp) (us : List Token) (given : Result (Value × List Token) ℕ) → starts (means operator) tokens ≡ true → item_at operator tokens ≡ Ok (op, us)
      → read one us ≡ given → read (links operator one left) tokens ≡ read (chain_behind operator one (Some (left, op))) us
  unfolding links chain_behind
  next_is left tokens op us (Ok then) passes is same = steps_stepped (means operator) (λ l. read (link operator one l)) shrinks left tokens (Binary op left then.0) then.1 passes
      (ap (λ r. r >>= λ x. (read one x.1 >>= λ y. give_at (Binary x.0 left y.0) y.1)) is ∙ ap (λ r. r >>= λ y. give_at (Binary op left y.0) y.1) same)
      ∙ sym (ap (λ (r : Result (Value × List Token) ℕ). r >>= λ x. read (links operator one (Binary op left x.0)) x.1) same)
  next_is left tokens op us (Err k) passes is same = steps_stop (means operator) (λ l. read (link operator one l)) shrinks left tokens k passes
      (ap (λ r. r >>= λ x. (read one x.1 >>= λ y. give_at (Binary x.0 left y.0) y.1)) is ∙ ap (λ r. r >>= λ y. give_at (Binary op left y.0) y.1) same)
      ∙ sym (ap (λ (r : Result (Value × List Token) ℕ). r >>= λ x. read (links operator one (Binary op left x.0)) x.1) same)

pub link_next : (operator : Token → Option BinOp) (one : Grammar Token Value) (left : Value) (tokens : List Token) (op : BinOp) (us : List Token) → starts (means operator) tokens ≡ true
    → item_at operator tokens ≡ Ok (op, us) → read (links operator one left) tokens ≡ read (chain_behind operator one (Some (left, op))) us
link_next operator one left tokens op us passes is = next_is operator one left tokens op us (read one us) passes is refl

pub link_bare : (operator : Token → Option BinOp) (one : Grammar Token Value) (left : Value) (tokens : List Token) (k : ℕ) → starts (means operator) tokens ≡ true → item_at operator tokens ≡ Err k
    → read (links operator one left) tokens ≡ Err k
unfolding links
link_bare operator one left tokens k passes is = grind (arith, steps_stop, shrinks)

pub link_end : (operator : Token → Option BinOp) (one : Grammar Token Value) (left : Value) (tokens : List Token) → starts (means operator) tokens ≡ false
    → read (links operator one left) tokens ≡ Ok (left, tokens)
unfolding links
link_end operator one left tokens falls = steps_end (means operator) (λ l. read (link operator one l)) left tokens falls

pub ruleset link_steps = (link_next, link_bare, link_end)

sign_takes : (token : Token) → Shrinks (λ k. read (behind token (nothing (suc k))))
sign_takes token k tokens x e = takes is_same (behind token (nothing (suc k))) refl tokens x e

pub counted : (token : Token) (count : ℕ) (tokens us : List Token) → starts (is_same token) tokens ≡ true → past (is_same token) tokens ≡ Ok us → read (signs token count) tokens ≡ read (signs token (count + 1)) us
unfolding signs
counted token count tokens us passes is = rw add-one (steps_stepped (is_same token) (λ k. read (behind token (nothing (suc k)))) (sign_takes token) count tokens (suc count) us passes
    (ap (λ (r : Result (List Token) ℕ). r >>= give_at (suc count)) is))

pub count_bare : (token : Token) (count : ℕ) (tokens : List Token) (k : ℕ) → starts (is_same token) tokens ≡ true → past (is_same token) tokens ≡ Err k → read (signs token count) tokens ≡ Err k
unfolding signs
count_bare token count tokens k passes is = grind (arith, steps_stop, nothing, sign_takes)

pub count_end : (token : Token) (count : ℕ) (tokens : List Token) → starts (is_same token) tokens ≡ false → read (signs token count) tokens ≡ Ok (count, tokens)
unfolding signs
count_end token count tokens falls = steps_end (is_same token) (λ k. read (behind token (nothing (suc k)))) count tokens falls

pub ruleset sign_steps = (counted, count_bare, count_end)

pub wrapped_more : (wrap : Value → Value) (n : ℕ) (value : Value) → wrapped wrap (n + 1) value ≡ wrap (wrapped wrap n value)
wrapped_more wrap n value = rw add-one refl
