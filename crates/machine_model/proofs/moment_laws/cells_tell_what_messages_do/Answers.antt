use Rattle.machine_model.proofs.EveryMoment.{cell_down, cell_leads}
use Rattle.machine_model.proofs.moment_laws.cells_tell_what_messages_do.Goals as goal

pub returns-clause-down : goal.returns-clause-down
returns-clause-down c = cell_down

pub returns-clause-leads : goal.returns-clause-leads
returns-clause-leads c = cell_leads
