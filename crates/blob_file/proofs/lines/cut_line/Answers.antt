use Rattle.blob_file.proofs.Cuts.{cut_slices}
use Rattle.blob_file.proofs.lines.cut_line.Goals as goal

pub returns-in-Some : goal.returns-in-Some
returns-in-Some c = cut_slices c.args.bytes.now c.in-Some.end c.in-Some.ensures.within c.in-Some.ensures.found c.in-Some.ensures.before
