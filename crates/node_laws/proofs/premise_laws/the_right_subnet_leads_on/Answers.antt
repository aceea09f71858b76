use Rattle.node_laws.proofs.Leading.{kept, leads_on}
use Rattle.node_laws.proofs.premise_laws.the_right_subnet_leads_on.Goals as goal

pub returns-clause-wanted : goal.returns-clause-wanted
returns-clause-wanted c = leads_on

pub returns-clause-targeted : goal.returns-clause-targeted
returns-clause-targeted c = kept
