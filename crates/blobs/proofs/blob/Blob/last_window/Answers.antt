use Rattle.blobs.proofs.Lemmas.{◌-◌, ◌*◌, arith, last_bit}
use Rattle.blobs.proofs.blob.Blob.last_window.Goals as goal

pub returns : goal.returns
returns c = λ k h. last_bit c.args.self.now c.args.at (8 * (c.len.result - c.args.at)) c.bits_by_bytes.result k (omega arith) c.bits_by_bytes.ensures
