-- A level is read by the levels below it, and brackets leave less room. In a chain the operands that are left give the whole chain.
use Rattle.line_phrases.proofs.Imports.{◌≡◌, ◌≤◌, ◌+◌, ◌*◌, length, or_of, and_of, sum_of, product_of, read, atom_within, chain_behind, left_term, unary, product, sum, negation, conjunction, expr_over}
use Rattle.line_phrases.proofs.exprs.+expr.Given as goal

abbrev pub decreases-read_atom : goal.decreases-read_atom
decreases-read_atom l = 10 * l.room + 0

abbrev pub decreases-read_unary : goal.decreases-read_unary
decreases-read_unary l = 10 * l.room + 1

abbrev pub decreases-read_product : goal.decreases-read_product
decreases-read_product l = 10 * l.room + 2

abbrev pub decreases-read_sum : goal.decreases-read_sum
decreases-read_sum l = 10 * l.room + 3

abbrev pub decreases-read_comparison : goal.decreases-read_comparison
decreases-read_comparison l = 10 * l.room + 4

abbrev pub decreases-read_negation : goal.decreases-read_negation
decreases-read_negation l = 10 * l.room + 5

abbrev pub decreases-read_conjunction : goal.decreases-read_conjunction
decreases-read_conjunction l = 10 * l.room + 6

abbrev pub decreases-read_boxed : goal.decreases-read_boxed
decreases-read_boxed l = 10 * l.room + 7

abbrev pub decreases-read_bracketed : goal.decreases-read_bracketed
decreases-read_bracketed l = 10 * l.room + 8

abbrev pub decreases-read_choice : goal.decreases-read_choice
decreases-read_choice l = 10 * l.room + 8

abbrev pub invariant-read_boxed-loop-waiting : goal.invariant-read_boxed-loop-waiting
invariant-read_boxed-loop-waiting l = record {
  same : read (chain_behind or_of (conjunction (atom_within l.room)) (left_term l.waiting)) l.tokens ≡ read (expr_over (atom_within l.room)) l.fn.tokens;
  shorter : length l.tokens ≤ length l.fn.tokens;
}

abbrev pub decreases-read_boxed-loop-waiting : goal.decreases-read_boxed-loop-waiting
decreases-read_boxed-loop-waiting l = length l.tokens

abbrev pub invariant-read_conjunction-loop-waiting : goal.invariant-read_conjunction-loop-waiting
invariant-read_conjunction-loop-waiting l = record {
  same : read (chain_behind and_of (negation (atom_within l.room)) (left_term l.waiting)) l.tokens ≡ read (conjunction (atom_within l.room)) l.fn.tokens;
  shorter : length l.tokens ≤ length l.fn.tokens;
}

abbrev pub decreases-read_conjunction-loop-waiting : goal.decreases-read_conjunction-loop-waiting
decreases-read_conjunction-loop-waiting l = length l.tokens

abbrev pub invariant-read_sum-loop-waiting : goal.invariant-read_sum-loop-waiting
invariant-read_sum-loop-waiting l = record {
  same : read (chain_behind sum_of (product (atom_within l.room)) (left_term l.waiting)) l.tokens ≡ read (sum (atom_within l.room)) l.fn.tokens;
  shorter : length l.tokens ≤ length l.fn.tokens;
}

abbrev pub decreases-read_sum-loop-waiting : goal.decreases-read_sum-loop-waiting
decreases-read_sum-loop-waiting l = length l.tokens

abbrev pub invariant-read_product-loop-waiting : goal.invariant-read_product-loop-waiting
invariant-read_product-loop-waiting l = record {
  same : read (chain_behind product_of (unary (atom_within l.room)) (left_term l.waiting)) l.tokens ≡ read (product (atom_within l.room)) l.fn.tokens;
  shorter : length l.tokens ≤ length l.fn.tokens;
}

abbrev pub decreases-read_product-loop-waiting : goal.decreases-read_product-loop-waiting
decreases-read_product-loop-waiting l = length l.tokens
