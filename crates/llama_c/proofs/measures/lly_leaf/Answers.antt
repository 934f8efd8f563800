use Rattle.llama_c.proofs.Imports.{IfSome, Option, subst, Contains, texts_of, Table}
use Rattle.llama_c.proofs.measures.lly_leaf.Goals as goal

pub returns-in-Err-clause-none : goal.returns-in-Err-clause-none
returns-in-Err-clause-none c is =
    subst (λ (held : Option Table). IfSome held (λ table. Contains (texts_of table.fields) c.args.path.now → ⊥)) c.in-Some.ensures.view
    (subst (λ (table : Table). Contains (texts_of table.fields) c.args.path.now → ⊥) c.deref.ensures c.in-Err.ensures.none.1)
