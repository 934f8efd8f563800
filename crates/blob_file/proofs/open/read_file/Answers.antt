use Rattle.blob_file.proofs.Lemmas.{rules, ◌≡◌, ◌∙◌, drop, length, Some, Err, Result, sym, ap, subst, sum_by, Owner, Table, owners_of, Saved, header_at, with_body, opened, empty_table, IsRead, header_in, header_of, FileFault, read_is_file, header_told, body_told}
use Rattle.blob_file.proofs.open.read_file.Goals as goal

pub returns-in_err-view-clause-read : goal.returns-in_err-view-clause-read
returns-in_err-view-clause-read g c =
    let bytes = c.args.bytes.now in
    let begins = c.in-Some.ensures.0 in
    let header = header_in c.in_ok-header.header in
    let found : header_at (drop 8 bytes) ≡ Some (header, c.in_ok-header.body.now) = sym (ap header_at c.in-Some.ensures.1) ∙ c.in_ok-header.ensures.found in
    let is : c.from_residual-in_err-view.result ≡ Err c.in_err-view.field-0.0 = search rules in
    rw is (subst (λ (t : Result Saved FileFault). IsRead t (Err c.in_err-view.field-0.0)) (sym (header_told bytes begins header c.in_ok-header.body.now found)) c.in_err-view.ensures.refused)

pub filled-requires : goal.filled-requires
filled-requires g c =
    let made = c.in_ok-view.ensures.made in
    record {
      empty = made ∙ ap empty_table (sym (ap header_of made));
      sized = c.in_ok-view.ensures.sized ∙ sym (ap (λ (t : Table). sum_by (length {A = Owner}) (owners_of t)) made);
    }

pub returns : goal.returns
returns g c =
    let bytes = c.args.bytes.now in
    let told : opened bytes ≡ with_body (header_of c.in_ok-view.view) c.in_ok-header.body.now =
    body_told bytes c.in-Some.ensures.0 (header_in c.in_ok-header.header) (sym (ap header_at c.in-Some.ensures.1) ∙ c.in_ok-header.ensures.found) c.in_ok-view.ensures.lies (header_of c.in_ok-view.view)
    (ap header_of c.in_ok-view.ensures.made) in
    let read : IsRead (opened bytes) c.filled.result = subst (λ (t : Result Saved FileFault). IsRead t c.filled.result) (sym told) c.filled.ensures.read in
    record { read = read; file = read_is_file bytes c.filled.result read; steps = c.filled.ensures.steps }
