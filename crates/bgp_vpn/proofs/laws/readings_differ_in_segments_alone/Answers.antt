use Rattle.bgp_vpn.proofs.AlikeLemmas.{first_alike, changes_alike, fault_alike}
use Rattle.bgp_vpn.proofs.laws.readings_differ_in_segments_alone.Goals as goal

pub returns-clause-first_check : goal.returns-clause-first_check
returns-clause-first_check c = first_alike

pub returns-clause-changes : goal.returns-clause-changes
returns-clause-changes c = changes_alike

pub returns-clause-fault : goal.returns-clause-fault
returns-clause-fault c = fault_alike
