use Rattle.command_checks.proofs.Imports.{arith, ◌≡◌, ℕ, List, map, ap, Span, weighted, leaf_count_of, weighted_at}
use Rattle.command_checks.proofs.WeightedTerms.{are_fit, divides_some, terms_able, terms_few}
use Rattle.command_checks.proofs.stencils.fit_stencil.Goals as goal

pub returns-clause-able : goal.returns-clause-able
returns-clause-able c =
    let window = c.in_ok-window.window in
    let texts = c.args.texts.now in
    let leaves = c.in_ok-leaves.leaves.items in
    let terms = c.in_ok-terms.terms.items in
    let fit = are_fit window texts c.args.divisor c.args.rounds c.in_ok-check_terms.ensures in
    let are : map weighted terms ≡ weighted_at texts leaves = rw c.as_slice.ensures.value at c.in_ok-terms.ensures in
    let few = terms_few terms texts leaves are in
    record {
      window = ap (λ (w : List ℕ × List Span). w.0) c.in_ok-window.ensures.spans;
      leaf = c.in_ok-leaf.ensures.inside;
      terms = terms_able (leaf_count_of c.args.view.now) window terms texts leaves are fit.reach fit.weigh c.in_ok-leaves.ensures.inside;
      few = omega (arith, few, fit.few);
      divisor = divides_some c.args.divisor fit.divides;
    }
