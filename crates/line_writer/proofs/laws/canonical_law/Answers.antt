use Rattle.line_writer.proofs.ReadsBack.{are_spelled, no_end, reads_back}
use Rattle.line_writer.proofs.laws.canonical_law.Goals as goal

pub returns-clause-reads_back : goal.returns-clause-reads_back
returns-clause-reads_back c = reads_back

pub returns-clause-spelled : goal.returns-clause-spelled
returns-clause-spelled c = are_spelled

pub returns-clause-one_line : goal.returns-clause-one_line
returns-clause-one_line c = no_end
