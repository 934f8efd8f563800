-- the counts that are left, around what is built
use Rattle.line_phrases.proofs.Imports.{◌≡◌, vec_len, tree_of, arrays}
use Rattle.line_phrases.proofs.fields.array_of.Given as goal

abbrev pub invariant-loop-len : goal.invariant-loop-len
invariant-loop-len l = arrays l.counts.items (tree_of l.dim) ≡ arrays l.fn.counts.items (tree_of l.fn.element)

abbrev pub decreases-loop-len : goal.decreases-loop-len
decreases-loop-len l = vec_len l.counts
