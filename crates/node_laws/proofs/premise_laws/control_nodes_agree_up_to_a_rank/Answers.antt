use Rattle.node_laws.proofs.Worked.{agree, agree_whole, all_targeted, differ, own_targeted}
use Rattle.node_laws.proofs.premise_laws.control_nodes_agree_up_to_a_rank.Goals as goal

pub returns-clause-targeted : goal.returns-clause-targeted
returns-clause-targeted c = all_targeted

pub returns-clause-targeted_early : goal.returns-clause-targeted_early
returns-clause-targeted_early c = own_targeted

pub returns-clause-agree : goal.returns-clause-agree
returns-clause-agree c = agree

pub returns-clause-differ : goal.returns-clause-differ
returns-clause-differ c = differ

pub returns-clause-all : goal.returns-clause-all
returns-clause-all c = agree_whole
