use Rattle.record_dim.proofs.Imports.{◌≡◌, ◌+◌, ◌≤◌, length, min, false, nat_eq, sym, arith, pointwise, Field, leaves, leaves_of, tree_of, fields_of}
use Rattle.record_dim.proofs.Walks.{length-leaves}
use Rattle.record_dim.proofs.Lookup.{left_found, left_few, left_more}
use Rattle.record_dim.proofs.nodes.find_field.Goals as goal

pub returns-then-eq-clause-some : goal.returns-then-eq-clause-some
returns-then-eq-clause-some c =
    let left = rw c.in-More.is at c.loop-left.invariant in
    let this = rw c.deref.ensures at c.if-eq.ensures in
    let field = c.in-More.field.value in
    rw c.deref-then-eq.ensures (left_found (fields_of c.args.fields.now) field.name (tree_of field.dim) (fields_of c.in-More.rest.value) c.args.name c.loop-left.before (sym this) left)

pub loop-left-preserved : goal.loop-left-preserved
loop-left-preserved c =
    let left = rw c.in-More.is at c.loop-left.invariant in
    let field = c.in-More.field.value in
    let fields = fields_of c.args.fields.now in
    let rest = fields_of c.in-More.rest.value in
    let total : c.loop-left.before + length (leaves (Field field.name (tree_of field.dim) rest)) ≡ length (leaves fields) =
    left_few fields (Field field.name (tree_of field.dim) rest) c.args.name c.loop-left.before left in
    let parts : length (leaves (Field field.name (tree_of field.dim) rest)) ≡ length (leaves_of (tree_of field.dim)) + length (leaves rest) =
    length-leaves field.name (tree_of field.dim) rest in
    let few : length (leaves fields) ≤ 64 = c.requires in
    let count : c.count_leaves-before.result ≡ min 65 (length (leaves_of (tree_of field.dim))) = rw c.deref-in-More.ensures at c.count_leaves-before.ensures in
    let exact : length (leaves_of (tree_of field.dim)) ≡ c.count_leaves-before.result = omega arith in
    let other : pointwise nat_eq field.name c.args.name ≡ false = sym (rw c.deref.ensures at c.if-eq.ensures) in
    let more = left_more fields field.name (tree_of field.dim) rest c.args.name c.loop-left.before other left in grind (arith, fields_of)
