use Rattle.blob_file.proofs.Opens.{opens_files}
use Rattle.blob_file.proofs.laws.opened_law.Goals as goal

pub returns : goal.returns
returns c = opens_files c.one_line_law.ensures c.line_law.ensures c.canonical_law.ensures.reads_back c.canonical_law.ensures.one_line
