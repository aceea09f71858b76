use Rattle.bgp_vpn.proofs.TargetLemmas.{each_target, targets_ascend}
use Rattle.bgp_vpn.proofs.laws.targets_are_those_communities.Goals as goal

pub returns-clause-each : goal.returns-clause-each
returns-clause-each c = each_target

pub returns-clause-ascending : goal.returns-clause-ascending
returns-clause-ascending c = targets_ascend
