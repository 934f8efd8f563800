use Rattle.session_runs.proofs.Imports.{sym, ◌∙◌, arith, long_first, blank_first, said_first}
use Rattle.session_runs.proofs.version.first_line.Goals as goal

pub returns-then-line-gt-MAX_LINE_BYTES : goal.returns-then-line-gt-MAX_LINE_BYTES
returns-then-line-gt-MAX_LINE_BYTES c = λ lines. long_first c.args.line.now lines (omega arith)

pub returns-then-is_blank : goal.returns-then-is_blank
returns-then-is_blank c = λ lines. blank_first c.args.line.now lines (omega arith) (sym c.is_blank.ensures ∙ c.if-is_blank.true)

pub returns-in-Some : goal.returns-in-Some
returns-in-Some c = λ lines. said_first c.args.line.now lines _ (omega arith) (sym c.is_blank.ensures ∙ c.if-is_blank.false) (sym c.version_of.ensures ∙ c.in-Some.is)

pub returns-in-None : goal.returns-in-None
returns-in-None c = λ lines. said_first c.args.line.now lines _ (omega arith) (sym c.is_blank.ensures ∙ c.if-is_blank.false) (sym c.version_of.ensures ∙ c.in-None.is)
