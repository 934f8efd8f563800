use Rattle.map_aosoa.proofs.Imports.{ℕ, ◌*◌, ◌/◌, ap, ◌∙◌}
use Rattle.map_aosoa.proofs.Blob.{blob_bytes_is}
use Rattle.map_aosoa.proofs.aosoa.AosoaMapping.blob_bytes.Goals as goal

pub returns : goal.returns
returns c =
    let m = c.args.self.now in
    ap (λ (n : ℕ). 8 * (n * m.stride / 8)) c.count_blocks.ensures
    ∙ blob_bytes_is m.lanes m.slots m.cells.items m.offsets.items m.stride m.some m.stored c.args._blob c.requires
