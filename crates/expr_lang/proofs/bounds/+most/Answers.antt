use Rattle.expr_lang.proofs.Imports.{arith, length, ap, Link, within_front, within_links, within_rest, no_deeper, common_steps}
use Rattle.expr_lang.proofs.MostSoFar.{more, ended}
use Rattle.expr_lang.proofs.bounds.+most.Goals as goal

pub chain_most-operand_most-requires : goal.chain_most-operand_most-requires
chain_most-operand_most-requires t c = grind (arith, common_steps, within_front)

pub chain_most-loop-links-init : goal.chain_most-loop-links-init
chain_most-loop-links-init t c = grind (arith, common_steps, no_deeper, within_links)

pub chain_most-loop-links-preserved : goal.chain_most-loop-links-preserved
chain_most-loop-links-preserved t c =
    let before = c.loop-links.invariant in
    let s = c.in-More.link.value.step in
    let rest = c.in-More.link.value.rest in
    let step_is = ap (λ (l : Link). l.step) c.deref.ensures in
    let rest_is = ap (λ (l : Link). l.rest) c.deref-in-More.ensures in
    let so_far = more c.args.leaves.now c.args.places.now c.args.levels _ _ rest _ s _ _ _ _ c.in-More.is step_is rest_is before.so_far c.in_ok-most-2.ensures in
    record {
      no_deeper = no_deeper _ rest _ s _ _ c.in-More.is rest_is before.no_deeper;
      within = within_rest (length c.args.leaves.now) (length c.args.places.now) _ rest _ s _ c.in-More.is rest_is before.within;
      near = so_far.is_most.near;
      so_far = so_far;
    }

pub chain_most-returns : goal.chain_most-returns
chain_most-returns t c = ended c.args.leaves.now c.args.places.now c.args.levels _ _ _ c.in_default.is c.loop-links.invariant.so_far
