use Rattle.c_lines.proofs.Lemmas.{rules, other_source, was_done, was_narrow, was_other}
use Rattle.c_lines.proofs.copies.copied.Goals as goal

pub returns-in-Ok-clause-answer : goal.returns-in-Ok-clause-answer
returns-in-Ok-clause-answer g c = was_done c.args.source.now c.args.target.now c.copy.new.target c.in-Ok.ensures.copied

pub returns-in-Err-Mismatch-clause-answer : goal.returns-in-Err-Mismatch-clause-answer
returns-in-Err-Mismatch-clause-answer g c = was_other c.args.source.now c.args.target.now c.copy.new.target (rw c.in-Err-Mismatch.field-0-is at c.in-Err-Mismatch.ensures.copied)

pub returns-in-Err-Mismatch-clause-source : goal.returns-in-Err-Mismatch-clause-source
returns-in-Err-Mismatch-clause-source g c = other_source c.args.source.now c.copy.new.source c.copy.result (search rules) c.copy.ensures.source

pub returns-in-Err-Narrow-clause-answer : goal.returns-in-Err-Narrow-clause-answer
returns-in-Err-Narrow-clause-answer g c = was_narrow c.args.source.now c.args.target.now c.copy.new.target c.in-Err-Narrow.row c.in-Err-Narrow.leaf (rw c.in-Err-Narrow.field-0-is at c.in-Err-Narrow.ensures.copied)
