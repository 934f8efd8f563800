use Rattle.instrument.proofs.Imports.{ℕ, List, ap, refl, heat_counts}
use Rattle.instrument.proofs.Touches.{written}
use Rattle.instrument.proofs.heat.Heat.warm.Goals as goal

pub returns : goal.returns
returns c =
    ap (λ (blobs : List (List ℕ)). record (heat_counts c.args.self.now) { blobs = blobs })
    (written c.args.times c.args.self.now.blobs.items (λ blob. blob.items) c.args.blob c.args.number c.index_mut-counts.result.now _ c.index.result.now c.saturating_add.result c.requires.blob_in c.requires.granule_in
    c.index_mut-counts.ensures.value c.index.ensures c.saturating_add.ensures refl)
