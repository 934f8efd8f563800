use Rattle.csv_rows.proofs.Lemmas.{arith, ◌≡◌, ◌<◌, ◌+◌, ◌∙◌, true, length, drop, get_or, subst, ap, length-drop, get_or-drop, is_comma, first_line, IsField, here_behind, here_end, here_last}
use Rattle.csv_rows.proofs.line.Line.step.Goals as goal

pub returns-then-not-has_comma-clause-more : goal.returns-then-not-has_comma-clause-more
returns-then-not-has_comma-clause-more c =
    let line = c.args.self.now in
    let text = line.text.now in
    here_last text line.column line.start c.args.count c.requires.at.field c.requires.field
    (λ small. ap is_comma (get_or-drop line.start text c.args.count 0) ∙ c.if-not-has_comma.ensures (omega (arith, small, length-drop line.start text)))

pub returns-then-not-has_comma-clause-at : goal.returns-then-not-has_comma-clause-at
returns-then-not-has_comma-clause-at c =
    let line = c.args.self.now in
    let text = line.text.now in
    record {
      field = c.requires.at.field;
      is = here_end text line.column line.start c.args.count c.requires.at.field c.requires.field
          (λ small. ap is_comma (get_or-drop line.start text c.args.count 0) ∙ c.if-not-has_comma.ensures (omega (arith, small, length-drop line.start text)));
    }

pub returns-clause-at : goal.returns-clause-at
returns-clause-at c =
    let line = c.args.self.now in
    let text = line.text.now in
    let small : c.args.count < length (drop line.start text) = omega (arith, c.if-not-has_comma.ensures.0, length-drop line.start text) in
    let comma : is_comma (get_or (drop line.start text) c.args.count 0) ≡ true = ap is_comma (get_or-drop line.start text c.args.count 0) ∙ c.if-not-has_comma.ensures.1 in
    let place : line.start + (c.args.count + 1) ≡ line.start + c.args.count + 1 = omega arith in
    record {
      field = subst (IsField (first_line text) (line.column + 1)) place (here_behind text line.column line.start c.args.count c.requires.at.field c.requires.field small comma);
      is = c.requires.at.is;
    }
