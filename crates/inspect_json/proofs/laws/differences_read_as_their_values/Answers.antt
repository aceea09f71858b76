use Rattle.inspect_json.proofs.ReadBack.{difference_reads}
use Rattle.inspect_json.proofs.SameSaid.{difference_says}
use Rattle.inspect_json.proofs.laws.differences_read_as_their_values.Goals as goal

pub returns-clause-reads : goal.returns-clause-reads
returns-clause-reads g = difference_reads

pub returns-clause-says : goal.returns-clause-says
returns-clause-says g = difference_says
