use Rattle.blob_file.proofs.Lemmas.{rules, ◌≡◌, ◌∙◌, ℕ, List, length, ap, record_text, two_lines, view_text, header_of, file_length}
use Rattle.blob_file.proofs.save.file_len.Goals as goal

pub returns-clause-len : goal.returns-clause-len
returns-clause-len c =
    let table = c.args.view.now in
    let one : c.as_bytes.result.now ≡ record_text (header_of table) = search rules in
    let two : c.as_bytes-2.result.now ≡ view_text (header_of table) = search rules in
    let whole = rw c.map.ensures.layout at c.laws_of.ensures.lawful.whole_bytes in
    file_length table whole c.lines_len-lines.result c.blob_bytes.result
    (c.lines_len-lines.ensures.lines ∙ ap (λ (t : List ℕ). length (two_lines t c.as_bytes-2.result.now)) one ∙ ap (λ (t : List ℕ). length (two_lines (record_text (header_of table)) t)) two)
    c.blob_bytes.ensures.sum
