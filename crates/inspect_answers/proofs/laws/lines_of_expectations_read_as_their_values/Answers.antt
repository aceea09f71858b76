use Rattle.inspect_answers.proofs.ExpectReadBack.{counts_reads, unmet_reads}
use Rattle.inspect_answers.proofs.laws.lines_of_expectations_read_as_their_values.Goals as goal

pub returns-clause-unmet : goal.returns-clause-unmet
returns-clause-unmet c = unmet_reads

pub returns-clause-counts : goal.returns-clause-counts
returns-clause-counts c = counts_reads
