-- The values of a chain in the rows of a run, as far as its links have been walked.
use Rattle.row_updates.proofs.Imports.{◌≡◌, ◌∙◌, ℕ, ◌+◌, ◌<◌, List, ℤ, length, get_or, pos, sym, ap, subst, Links, Step, Term, step_term, links_term, one_more, safe_front, IsSafe, stepped, IsStepFit, IsWorthIn, IsRight, step_worth, step_fits, index_at, Table, Run, IsRunOf, row_of, AreWorth, AreRights, arith}
use Rattle.expr_lang.specs.declared.bound.Links.TheVariants as links

-- the same rows, so many as well
pub run_rows : (table old : Table) (run : Run) (n m : ℕ) → table ≡ old → m ≡ n → IsRunOf old run n → IsRunOf table run m
run_rows table old run n m same long rows = subst (λ (t : Table). IsRunOf t run m) (sym same) (subst (IsRunOf old run) (sym long) rows)

module _ (table : Table) (run : Run) (whole : Term ℕ) where
  -- they are those of a front of the whole term, behind which these links stand
  pub record IsWorthSoFar (l : Links) (values : List ℤ) : Type 0 where
    pub front : Term ℕ
    pub behind : links_term front l ≡ whole
    pub worth : AreWorth table run front values

  pub ended : (l : Links) (values : List ℤ) → l ≡ links.End → IsWorthSoFar l values → AreWorth table run whole values
  ended l values is all = subst (λ (term : Term ℕ). AreWorth table run term values) (sym (ap (links_term all.front) is) ∙ all.behind) all.worth

  module _ (all rest : Links) (s done : Step) (p : _) (values other : List ℤ) (is : all ≡ links.More' p s rest) (one : done ≡ s) (before : IsWorthSoFar all values)
      (rights : AreRights table run done other) (long : length other ≡ length values) where
    right : (k : ℕ) → k < length values → IsRight run.leaves.now run.places.now (row_of table (run.first + k)) (index_at table.extents (run.first + k)) done (get_or other k (pos 0))
    right k small = rights k (subst (λ (n : ℕ). k < n) (sym long) small)

    -- the step has a result of 64 bits in each row
    pub fits : IsSafe run.leaves.now run.places.now whole → (k : ℕ) → k < length values → IsStepFit done (get_or values k (pos 0)) (get_or other k (pos 0))
    fits safe k small = grind (arith, links_term, step_term, safe_front, step_fits, right)

    pub more : (after : Links) (now : List ℤ) → after ≡ rest → length now ≡ length values
        → ((k : ℕ) → k < length values → get_or now k (pos 0) ≡ stepped done (get_or values k (pos 0)) (get_or other k (pos 0))) → IsWorthSoFar after now
    more after now two same made = record {
      front = step_term before.front done;
      behind = one_more all rest after s done p before.front is one two ∙ before.behind;
      worth = λ k inside.
          let small = subst (λ (n : ℕ). k < n) same inside in
          let leaves = run.leaves.now in
          let places = run.places.now in
          let row = row_of table (run.first + k) in
          let index = index_at table.extents (run.first + k) in
          subst (IsWorthIn leaves places row index (step_term before.front done)) (sym (made k small))
          (step_worth leaves places row index before.front done (get_or values k (pos 0)) (get_or other k (pos 0)) (before.worth k small) (right k small));
    }
