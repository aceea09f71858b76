use Rattle.schedule_script.proofs.OfNodes.{address_iff, name_iff}
use Rattle.schedule_script.proofs.laws.ties_are_of_compute_nodes.Goals as goal

pub returns-clause-addresses : goal.returns-clause-addresses
returns-clause-addresses c = λ t d name a v. address_iff t d v name a

pub returns-clause-names : goal.returns-clause-names
returns-clause-names c = λ t d name a v. name_iff t d v name a
