use Rattle.c_lines.proofs.BlobBytes.{told_blob}
use Rattle.c_lines.proofs.blob_bytes.blob_of.Goals as goal

pub returns : goal.returns
returns c = told_blob c.args.view.now c.args.blob c.blob-bytes.result.now c.requires c.bytes_law.ensures c.blob-bytes.ensures
