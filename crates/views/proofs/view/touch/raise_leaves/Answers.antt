use Rattle.views.proofs.Imports.{◌≡◌, ◌+◌, ap, sym, ◌∙◌, subst, ℕ, Bool, LeafCounts, leaf_counts, HasLeaves, Counts, leaf_raised, leaves_raised, raised_leaves, fold_range_more}
use Rattle.views.proofs.view.touch.raise_leaves.Goals as goal

-- one leaf more
one_more : (c : goal.Joined-write) → (new : Counts) → leaf_counts new ≡ leaf_raised c.args.times c.args.write c.loop-leaf.leaf (leaf_counts c.loop-leaf.counts)
    → (leaf_counts new ≡ leaves_raised c.args.times c.args.write (c.loop-leaf.leaf + 1) (leaf_counts c.args.counts.now)) × HasLeaves (leaf_counts new) c.args.leaves
one_more c new one =
    let raise = λ (counts : LeafCounts) (leaf : ℕ). leaf_raised c.args.times c.args.write leaf counts in (
      one ∙ ap (λ (counts : LeafCounts). raise counts c.loop-leaf.leaf) c.loop-leaf.invariant.0 ∙ sym (fold_range_more raise (leaf_counts c.args.counts.now) c.loop-leaf.leaf),
      subst (λ (counts : LeafCounts). HasLeaves counts c.args.leaves) (sym one) (raised_leaves c.args.write c.args.times c.loop-leaf.leaf (leaf_counts c.loop-leaf.counts) c.args.leaves c.loop-leaf.invariant.1),
    )

-- a write or a read, as it was told
as_told : (c : goal.Joined-write) → {write : Bool} → c.args.write ≡ write
    → leaf_raised c.args.times write c.loop-leaf.leaf (leaf_counts c.loop-leaf.counts) ≡ leaf_raised c.args.times c.args.write c.loop-leaf.leaf (leaf_counts c.loop-leaf.counts)
as_told c is = ap (λ (write : Bool). leaf_raised c.args.times write c.loop-leaf.leaf (leaf_counts c.loop-leaf.counts)) (sym is)

pub loop-leaf-preserved : goal.loop-leaf-preserved
loop-leaf-preserved c = elim c.if-write.branch [
  | goal.then-write w ↦ one_more c c.if-write.counts (ap leaf_counts w.counts-is ∙ w.add_writes.ensures ∙ as_told c w.if-write.true)
  | goal.else-write w ↦ one_more c c.if-write.counts (ap leaf_counts w.counts-is ∙ w.add_reads.ensures ∙ as_told c w.if-write.false)
]
