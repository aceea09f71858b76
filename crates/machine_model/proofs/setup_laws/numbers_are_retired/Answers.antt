use Rattle.machine_model.proofs.Renumbered.{retired_count, retired_exactly}
use Rattle.machine_model.proofs.setup_laws.numbers_are_retired.Goals as goal

pub returns-clause-agents : goal.returns-clause-agents
returns-clause-agents c = retired_exactly

pub returns-clause-count : goal.returns-clause-count
returns-clause-count c = retired_count
