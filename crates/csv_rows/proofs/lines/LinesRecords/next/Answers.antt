use Rattle.csv_rows.proofs.Lemmas.{arith, ◌≡◌, ◌<◌, length, ap, ◌∙◌, nat_tests, line_start, HasNoQuote, text_behind, record_rows, line_record, left_plain, start_plain}
use Rattle.csv_rows.proofs.lines.LinesRecords.next.Goals as goal

pub returns : goal.returns
returns c =
    let lines = c.args.self.now in
    let text = c.behind_ends-text.result.now in
    let left = text_behind lines.is_begun lines.line.text.now in
    let begun : text ≡ line_start left = c.behind_ends-text.ensures ∙ ap line_start c.behind.ensures in
    let some : 0 < length text = grind (arith, nat_tests) in
    let none : HasNoQuote text = rw begun (start_plain left (left_plain lines.is_begun lines.line.text.now c.requires.1)) in
    grind (arith, record_rows, line_record)
