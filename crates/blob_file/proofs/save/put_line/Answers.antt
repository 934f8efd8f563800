use Rattle.blob_file.proofs.Imports.{rules, ◌∷◌, [], IsErr, Puts-stop, Puts-append}
use Rattle.blob_file.proofs.save.put_line.Goals as goal

pub returns-in_err-put : goal.returns-in_err-put
returns-in_err-put g c =
    let err : IsErr c.from_residual.result = search rules in
    Puts-stop c.from_residual.result (10 ∷ []) err c.in_err-put.ensures

pub returns : goal.returns
returns g c = Puts-append c.in_ok-put.ensures c.put-2.ensures
