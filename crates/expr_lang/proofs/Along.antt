-- Along the links of a chain: its outcome, and the bounds of its leaves and dimensions.
use Rattle.expr_lang.proofs.Imports.{◌≡◌, ℕ, ℤ, List, ◌++◌, Result, Ok, Err, refl, sym, ap, append_assoc, append-nil, EvalFault, Links, Step, Term, IsWithin, Outcome, no_read, after_reads, then_from, ◌>>=◌, outcome_of, step_term, links_term, step_outcome, links_outcome, IsStepWithin, AreWithin, arith}
use Rattle.expr_lang.specs.declared.bound.Links.TheVariants as links
use Rattle.expr_lang.specs.declared.bound.Step.TheVariants as step

then-same : (o : Outcome) → o >>= (λ x. no_read (Ok x)) ≡ o
then-same o = same o.answer o.reads
  where
    same : (answer : Result ℤ EvalFault) (reads : List ℕ) → then_from answer reads (λ x. no_read (Ok x)) ≡ record { answer = answer; reads = reads }
    same (Ok x) reads = ap (λ rs. record { answer = Ok x; reads = rs }) (append-nil reads)
    same (Err fault) reads = refl

then-then : (o : Outcome) (f g : ℤ → Outcome) → (o >>= f) >>= g ≡ o >>= (λ x. f x >>= g)
then-then o f g = first o.answer
  where
    second : (reads : List ℕ) (answer : Result ℤ EvalFault) (more : List ℕ) → then_from answer (reads ++ more) g ≡ after_reads reads (then_from answer more g)
    second reads (Ok y) more = ap (λ rs. record { answer = (g y).answer; reads = rs }) (append_assoc reads more (g y).reads)
    second reads (Err fault) more = refl

    first : (answer : Result ℤ EvalFault) → then_from answer o.reads f >>= g ≡ then_from answer o.reads (λ x. f x >>= g)
    first (Ok x) = second o.reads (f x).answer (f x).reads
    first (Err fault) = refl

step_term-outcome : (row : List ℤ) (index : List ℕ) (term : Term ℕ) (step : Step) → outcome_of row index (step_term term step) ≡ outcome_of row index term >>= step_outcome row index step
step_term-outcome row index term step.Neg = refl
step_term-outcome row index term step.Not = refl
step_term-outcome row index term (step.Binary' op first rest) = refl

-- the outcome of links behind a term is what they make of the outcome of the term
pub links_term-outcome : (row : List ℤ) (index : List ℕ) (term : Term ℕ) (links : Links) → outcome_of row index (links_term term links) ≡ outcome_of row index term >>= links_outcome row index links
links_term-outcome row index term links.End = sym (then-same (outcome_of row index term))
links_term-outcome row index term (links.More' p step rest) = grind (arith, step_term, step_term-outcome, then-then, (links_term-outcome row index (step_term term step) rest))

step_parts : (leaves rank : ℕ) (term : Term ℕ) (step : Step) → IsWithin leaves rank (step_term term step) → IsWithin leaves rank term × IsStepWithin leaves rank step
step_parts leaves rank term step.Neg h = (h, tt)
step_parts leaves rank term step.Not h = (h, tt)
step_parts leaves rank term (step.Binary' op first rest) h = (h.0, h.1)

-- what is within the bounds for a whole chain is so for its first operand and for its links
pub within_parts : (leaves rank : ℕ) (term : Term ℕ) (links : Links) → IsWithin leaves rank (links_term term links) → IsWithin leaves rank term × AreWithin leaves rank links
within_parts leaves rank term links.End h = (h, tt)
within_parts leaves rank term (links.More' p step rest) h =
    let behind = within_parts leaves rank (step_term term step) rest h in
    let here = step_parts leaves rank term step behind.0 in
    (here.0, (here.1, behind.1))

pub ruleset along = (links_term-outcome, within_parts)
