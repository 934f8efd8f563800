use Rattle.row_updates.proofs.Imports.{None, refl}
use Rattle.row_updates.proofs.run_updates.update_run.Goals as goal

pub returns-in-None-clause-updated : goal.returns-in-None-clause-updated
returns-in-None-clause-updated g c = rw c.in-None.is (c.given_run.ensures.updated None (λ k small. refl))
