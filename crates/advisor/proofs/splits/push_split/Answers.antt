use Rattle.advisor.proofs.Lemmas.{◌≡◌, ◌+◌, List, All, Some, Option, sym, subst, IfSome, All-push, term_of, holds_by, cells_under, cells_beside, Candidate, IsPriced, IsHold, IsSideCost, split_priced, first_lacks, rest_lacks, none_more}
use Rattle.advisor.proofs.splits.push_split.Goals as goal

pub returns-in_ok-push-clause-priced : goal.returns-in_ok-push-clause-priced
returns-in_ok-push-clause-priced c =
    let v = c.args.view.now in
    let granule = c.args.price.now.granule in
    let passes = c.args.price.now.passes.now in
    let path = c.args.path.now in
    let first = term_of c.args.first.expr.now in
    let rest = term_of c.args.rest.expr.now in
    let cells = c.args.cells.now in
    let one = c.in-Some.one in
    let two = c.in-Some-cost.two in
    let expr = c.in_ok-expr.expr in
    let made = c.in-Some-2.candidate in
    let pool = c.args.pool.now.items in
    let is = c.in-Some-2.is in
    let a : IsSideCost v granule passes (cells_under v.fields path cells) first (Some one) = subst (IsSideCost v granule passes (cells_under v.fields path cells) first) c.in-Some.is c.requires.first in
    let b : IsSideCost v granule passes (cells_beside v.fields path cells) rest (Some two) = subst (IsSideCost v granule passes (cells_beside v.fields path cells) rest) c.in-Some-cost.is c.requires.rest in
    let term : term_of made.expr ≡ term_of expr = subst (λ (o : Option Candidate). IfSome o (λ m. term_of m.expr ≡ term_of expr)) is c.in_ok-candidate.ensures.term in
    let cost : made.cost ≡ one + two = subst (λ (o : Option Candidate). IfSome o (λ m. m.cost ≡ one + two)) is c.in_ok-candidate.ensures.cost in
    let holds : made.holds ≡ holds_by (term_of expr) v.fields = subst (λ (o : Option Candidate). IfSome o (λ m. m.holds ≡ holds_by (term_of expr) v.fields)) is c.in_ok-candidate.ensures.holds in
    let each : All IsHold made.holds = subst (λ (o : Option Candidate). IfSome o (λ m. All IsHold m.holds)) is c.in_ok-candidate.ensures.each in
    let priced : IsPriced v granule passes made =
    split_priced v granule passes path first rest cells c.requires.cells made (term_of expr) one two a b c.in_ok-expr.ensures term cost holds each in
    subst (λ (cs : List Candidate). All (IsPriced v granule passes) cs) (sym c.in_ok-push.ensures.items) (All-push (IsPriced v granule passes) pool made c.requires.priced priced)

pub returns-in_default-clause-terms : goal.returns-in_default-clause-terms
returns-in_default-clause-terms c =
    let v = c.args.view.now in
    let granule = c.args.price.now.granule in
    let passes = c.args.price.now.passes.now in
    let path = c.args.path.now in
    let first = term_of c.args.first.expr.now in
    let rest = term_of c.args.rest.expr.now in
    let cells = c.args.cells.now in
    none_more v granule passes path first rest cells c.requires.cells c.args.pool.now.items
    (first_lacks v granule passes path first rest cells c.requires.cells
    (subst (IsSideCost v granule passes (cells_under v.fields path cells) first) c.in_default.is c.requires.first))

pub returns-in_default-cost-clause-terms : goal.returns-in_default-cost-clause-terms
returns-in_default-cost-clause-terms c =
    let v = c.args.view.now in
    let granule = c.args.price.now.granule in
    let passes = c.args.price.now.passes.now in
    let path = c.args.path.now in
    let first = term_of c.args.first.expr.now in
    let rest = term_of c.args.rest.expr.now in
    let cells = c.args.cells.now in
    none_more v granule passes path first rest cells c.requires.cells c.args.pool.now.items
    (rest_lacks v granule passes path first rest cells c.requires.cells
    (subst (IsSideCost v granule passes (cells_beside v.fields path cells) rest) c.in_default-cost.is c.requires.rest))
