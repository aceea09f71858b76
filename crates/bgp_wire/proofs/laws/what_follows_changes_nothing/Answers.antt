use Rattle.bgp_wire.proofs.Readings.{fault_stays}
use Rattle.bgp_wire.proofs.laws.what_follows_changes_nothing.Goals as goal

pub returns-clause-fault : goal.returns-clause-fault
returns-clause-fault c = fault_stays
