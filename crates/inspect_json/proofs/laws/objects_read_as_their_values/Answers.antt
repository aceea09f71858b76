use Rattle.inspect_json.proofs.ReadBack.{came_reads, went_reads}
use Rattle.inspect_json.proofs.SameSaid.{came_says, went_says}
use Rattle.inspect_json.proofs.laws.objects_read_as_their_values.Goals as goal

pub returns-clause-went_reads : goal.returns-clause-went_reads
returns-clause-went_reads g = went_reads

pub returns-clause-came_reads : goal.returns-clause-came_reads
returns-clause-came_reads g = came_reads

pub returns-clause-went_says : goal.returns-clause-went_says
returns-clause-went_says g = went_says

pub returns-clause-came_says : goal.returns-clause-came_says
returns-clause-came_says g = came_says
