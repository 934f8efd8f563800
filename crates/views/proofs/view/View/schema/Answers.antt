use Rattle.views.proofs.Lemmas.{◌≡◌, length, subst, Table, leaf_types_of, table_holds, table_seen}
use Rattle.views.proofs.view.View.schema.Goals as goal

pub returns-clause-table : goal.returns-clause-table
returns-clause-table c = table_seen c.self.invariant.1 c.self.view_is

pub returns-clause-paired : goal.returns-clause-paired
returns-clause-paired c = subst (λ (s : Table). length (table_holds s) ≡ length (leaf_types_of s)) c.self.view_is c.self.invariant.1.paired
