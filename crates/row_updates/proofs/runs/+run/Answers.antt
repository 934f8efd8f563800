use Rattle.row_updates.proofs.Lemmas.{rules, ◌≡◌, ◌∙◌, length, refl, sym, ap, subst, arith, Link, operand_term, chain_term, AreWithin, within_links, within_rest, safe_steps, safe_rest, no_deeper, Table, leaf_count_of, IsIdle, AreRights, run_rows, ended, fits, more}
use Rattle.row_updates.proofs.runs.+run.Goals as goal

pub chain_run-loop-links-init : goal.chain_run-loop-links-init
chain_run-loop-links-init g t c =
    let view = c.args.view.now in
    let run = c.args.run.now in
    let first = operand_term c.args.chain.now.first in
    let links = c.args.chain.now.links in
    let same = c.operand_run.ensures.same in
    record {
      no_deeper = omega arith;
      same = same;
      idle = subst IsIdle (sym same) c.requires.idle;
      within = subst (λ (v : Table). AreWithin (leaf_count_of v) (length v.extents) links) (sym same) (within_links (leaf_count_of view) (length view.extents) first links c.requires.within);
      safe = safe_steps run.leaves.now run.places.now first links c.requires.safe;
      rows = run_rows _ view run (length c.args.values.now) _ same (search rules) c.requires.rows;
      long = search rules;
      so_far = record { front = first; behind = refl; worth = c.operand_run.ensures.worth c.if-not-operand_run.false };
    }

pub chain_run-apply_step-requires-clause-fits : goal.chain_run-apply_step-requires-clause-fits
chain_run-apply_step-requires-clause-fits g t c =
    let view = c.args.view.now in
    let run = c.args.run.now in
    let before = c.loop-links.invariant in
    let s = c.in-More.link.value.step in
    let done = c.deref-in-More.result.now.step in
    let other = c.right_run.new.values in
    let first_is = ap (λ (l : Link). l.step) c.deref.ensures in
    let step_is = ap (λ (l : Link). l.step) c.deref-in-More.ensures in
    let rights : AreRights view run done other = grind arith in
    let long : length other ≡ length c.loop-links.values = omega (arith, before.long) in
    fits view run (chain_term c.args.chain.now) c.loop-links.links.now c.in-More.link.value.rest s done _ c.loop-links.values other c.in-More.is step_is before.so_far rights long c.requires.safe

pub chain_run-loop-links-preserved : goal.chain_run-loop-links-preserved
chain_run-loop-links-preserved g t c =
    let view = c.args.view.now in
    let run = c.args.run.now in
    let leaves = run.leaves.now in
    let places = run.places.now in
    let now = c.loop-links.view in
    let before = c.loop-links.invariant in
    let s = c.in-More.link.value.step in
    let rest = c.in-More.link.value.rest in
    let done = c.deref-in-More.result.now.step in
    let other = c.right_run.new.values in
    let same = c.right_run.ensures.same in
    let first_is = ap (λ (l : Link). l.step) c.deref.ensures in
    let step_is = ap (λ (l : Link). l.step) c.deref-in-More.ensures in
    let rest_is = ap (λ (l : Link). l.rest) c.deref-in-More-2.ensures in
    let rights : AreRights view run done other = grind arith in
    let long : length other ≡ length c.loop-links.values = omega (arith, before.long) in
    let made : length c.apply_step.new.values ≡ length c.loop-links.values = c.apply_step.ensures.long in
    record {
      no_deeper = no_deeper _ rest _ s _ _ c.in-More.is rest_is before.no_deeper;
      same = same ∙ before.same;
      idle = subst IsIdle (sym same) before.idle;
      within = grind (arith, within_rest);
      safe = safe_rest leaves places _ rest _ s _ c.in-More.is rest_is before.safe;
      rows = run_rows _ now run (length c.loop-links.other) _ same (omega arith) before.rows;
      long = long ∙ sym made;
      so_far = more view run (chain_term c.args.chain.now) c.loop-links.links.now rest s done _ c.loop-links.values other c.in-More.is step_is before.so_far rights long
          c.deref-in-More-2.result.now.rest c.apply_step.new.values rest_is made c.apply_step.ensures.each;
    }

pub chain_run-returns-clause-worth : goal.chain_run-returns-clause-worth
chain_run-returns-clause-worth g t c = λ all. ended c.args.view.now c.args.run.now (chain_term c.args.chain.now) _ _ c.in_default.is c.loop-links.invariant.so_far
