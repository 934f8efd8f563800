-- The value of an expression depends on the leaves alone that it reads.
use Rattle.std.specs.Prelude.{◌≡◌, ℕ, ℤ, pos, List, [], ◌∷◌, get_or, Result, Ok, Err, Option, Some, None, refl, neg_ℤ, not}
use Rattle.actor_steps.specs.Imports.{sym, ap, ◌∙◌, subst, arith, EvalFault, Term, Number, Entry, Index, Neg, Not, Binary, Outcome, outcome_of, after_reads, then_from, unless_decided, no_read, ranged, truth, is_true, decided, result_of}
use Rattle.actor_steps.specs.ConfluenceLaws.{Each, each-parts}

-- rows that agree on these leaves
abbrev pub Agree : List ℤ → List ℤ → List ℕ → Type 0
Agree row other leaves = Each (λ leaf. get_or row leaf (pos 0) ≡ get_or other leaf (pos 0)) leaves

module _ (row other : List ℤ) (index : List ℕ) where
  -- one thing after another
  then_same : (first second : Outcome) (next next' : ℤ → Outcome) → first ≡ second
      → Agree row other (then_from first.answer first.reads next).reads
      → ((x : ℤ) → Agree row other (next x).reads → next x ≡ next' x)
      → then_from first.answer first.reads next ≡ then_from second.answer second.reads next'
  then_same first second next next' e agree same = by_answer first.answer refl ∙ ap (λ (o : Outcome). then_from o.answer o.reads next') e where
    by_answer : (answer : Result ℤ EvalFault) → first.answer ≡ answer → then_from first.answer first.reads next ≡ then_from first.answer first.reads next'
    by_answer (Ok x) is =
        let here : Agree row other (after_reads first.reads (next x)).reads = subst (λ (a : Result ℤ EvalFault). Agree row other (then_from a first.reads next).reads) is agree in
        ap (λ (a : Result ℤ EvalFault). then_from a first.reads next) is
        ∙ ap (after_reads first.reads) (same x (each-parts (λ leaf. get_or row leaf (pos 0) ≡ get_or other leaf (pos 0)) first.reads (next x).reads here).1)
        ∙ ap (λ (a : Result ℤ EvalFault). then_from a first.reads next') (sym is)
    by_answer (Err fault) is =
        ap (λ (a : Result ℤ EvalFault). then_from a first.reads next) is ∙ ap (λ (a : Result ℤ EvalFault). then_from a first.reads next') (sym is)

  first_agrees : (first : Outcome) (next : ℤ → Outcome) → Agree row other (then_from first.answer first.reads next).reads → Agree row other first.reads
  first_agrees first next agree = by_answer first.answer agree where
    by_answer : (answer : Result ℤ EvalFault) → Agree row other (then_from answer first.reads next).reads → Agree row other first.reads
    by_answer (Ok x) here = (each-parts (λ leaf. get_or row leaf (pos 0) ≡ get_or other leaf (pos 0)) first.reads (next x).reads here).0
    by_answer (Err fault) here = here

  pub outcome_same : (term : Term ℕ) → Agree row other (outcome_of row index term).reads → outcome_of row index term ≡ outcome_of other index term
  outcome_same (Number number) agree = refl
  outcome_same (Entry leaf) agree = ap (λ (x : ℤ). record { answer = Ok x; reads = leaf ∷ [] }) agree.0
  outcome_same (Index dimension) agree = refl
  outcome_same (Neg inner) agree =
      let next : ℤ → Outcome = λ x. no_read (ranged (neg_ℤ x)) in
      grind (arith, then_same, first_agrees, (outcome_same inner (first_agrees (outcome_of row index inner) next agree)))
  outcome_same (Not inner) agree =
      let next : ℤ → Outcome = λ x. no_read (Ok (truth (not (is_true x)))) in
      grind (arith, then_same, first_agrees, (outcome_same inner (first_agrees (outcome_of row index inner) next agree)))
  outcome_same (Binary op left right) agree =
      let then : List ℤ → ℤ → Outcome = λ r x. unless_decided (decided op x) (then_from (outcome_of r index right).answer (outcome_of r index right).reads (λ y. no_read (result_of op x y))) in
      then_same (outcome_of row index left) (outcome_of other index left) (then row) (then other)
      (outcome_same left (first_agrees (outcome_of row index left) (then row) agree)) agree
      (λ x a. by_decided x (decided op x) (λ b. outcome_same right b) a) where
        by_decided : (x : ℤ) (answer : Option ℤ) → (Agree row other (outcome_of row index right).reads → outcome_of row index right ≡ outcome_of other index right)
            → Agree row other (unless_decided answer (then_from (outcome_of row index right).answer (outcome_of row index right).reads (λ y. no_read (result_of op x y)))).reads
            → unless_decided answer (then_from (outcome_of row index right).answer (outcome_of row index right).reads (λ y. no_read (result_of op x y)))
            ≡ unless_decided answer (then_from (outcome_of other index right).answer (outcome_of other index right).reads (λ y. no_read (result_of op x y)))
        by_decided x (Some z) right_same a = refl
        by_decided x None right_same a =
            let next : ℤ → Outcome = λ y. no_read (result_of op x y) in
            then_same (outcome_of row index right) (outcome_of other index right) next next
            (right_same (first_agrees (outcome_of row index right) next a)) a (λ y b. refl)
