use Rattle.inspect_json.proofs.ReadBack.{idle_reads}
use Rattle.inspect_json.proofs.SameSaid.{idle_says}
use Rattle.inspect_json.proofs.laws.what_is_idle_reads_as_its_value.Goals as goal

pub returns-clause-reads : goal.returns-clause-reads
returns-clause-reads g = idle_reads

pub returns-clause-says : goal.returns-clause-says
returns-clause-says g = idle_says
