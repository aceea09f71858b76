use Rattle.inspect_json.proofs.ReadBack.{way_reads}
use Rattle.inspect_json.proofs.SameSaid.{way_says}
use Rattle.inspect_json.proofs.laws.ways_read_as_their_values.Goals as goal

pub returns-clause-reads : goal.returns-clause-reads
returns-clause-reads g = way_reads

pub returns-clause-says : goal.returns-clause-says
returns-clause-says g = way_says
