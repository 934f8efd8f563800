use Rattle.record_dim.proofs.Imports.{◌≡◌, refl, rules, the_lemmas, Field, tree_of, fields_of}
use Rattle.record_dim.proofs.Gathered.{kinds-step, texts-step}
use Rattle.record_dim.proofs.tables.+gather.Goals as goal

pub gather_fields-loop-left-preserved : goal.gather_fields-loop-left-preserved
gather_fields-loop-left-preserved t c =
    let field = c.deref.result.now in
    let left : fields_of c.loop-left.left.now ≡ Field field.name (tree_of field.dim) (fields_of c.deref-left.result.now) = rw (c.in-More.is, c.deref.ensures, c.deref-left.ensures) refl in
    record {
      no_deeper = search (rules, the_lemmas);
      kinds = kinds-step _ _ _ _ _ _ _ left c.in_ok-gather_field.ensures.kinds c.loop-left.invariant.kinds;
      texts = texts-step _ _ _ _ _ _ _ _ left c.in_ok-gather_field.ensures.texts c.loop-left.invariant.texts;
    }
