use Rattle.inspect_json.proofs.ReasonsBack.{explained_reads, explained_says}
use Rattle.inspect_json.proofs.laws.reasons_read_as_their_values.Goals as goal

pub returns-clause-reads : goal.returns-clause-reads
returns-clause-reads g = explained_reads

pub returns-clause-says : goal.returns-clause-says
returns-clause-says g = explained_says
