use Rattle.machine_moment_laws.proofs.Interrupting.{kept_in_one_edit}
use Rattle.machine_moment_laws.proofs.kept_laws.kept_packets_are_delivered_in_one_edit.Goals as goal

pub returns : goal.returns
returns c = kept_in_one_edit
