use Rattle.machine_model.proofs.Renumbered.{least_taken}
use Rattle.machine_model.proofs.setup_laws.the_least_number_is_taken.Goals as goal

pub returns : goal.returns
returns c = least_taken
