use Rattle.blob_file.proofs.Lemmas.{refl, image_bytes, same_rows, lawful, paired}
use Rattle.blob_file.proofs.laws.rows_law.Goals as goal

pub returns : goal.returns
returns c = λ header rows lines can are. same_rows header (lawful header lines.nameless can) (paired header) (image_bytes header rows) rows are refl
