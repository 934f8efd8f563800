use Rattle.blob_file.proofs.OneFile.{one_file}
use Rattle.blob_file.proofs.laws.file_law.Goals as goal

pub returns : goal.returns
returns c = one_file
